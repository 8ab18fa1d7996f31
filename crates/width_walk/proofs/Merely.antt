-- `Measured` holds that some proof of `Walkable` exists; here is one. The wrap in it is the least at which the figures are the estimates of the lines, of which there is only one.
use mathlib.Core.Path.{◌≡◌, sym, ap, ◌∙◌, subst}
use mathlib.Core.HLevel.{Discrete, Σ_prop_path, hedberg}
use mathlib.Core.Logic.{∥∥₁_elim, ∥∥₁_map}
use mathlib.Core.Bool.{Bool-set}
use mathlib.Core.List.{List, List-discrete}
use Prim.Native.Nat.{ℕ, zero, suc, ◌+◌, ◌≤◌}
use native.Mathlib.Nat.{ℕ_set}
use native.Mathlib.Decide.{ℕ_discrete}
use native.Mathlib.Bridge.{le_prop}
use native.Mathlib.Omega.{arith}
use lib.ListN.{length, take}
use Rattle.text.specs.declared.Estimate.{Estimate}
use Rattle.records.specs.declared.NodeRecord.{NodeRecord}
use Rattle.estimates.specs.Estimates.{estimates}
use Rattle.width_walk.specs.inner.Steps.{Walkable}

-- ---- the least number of which a fact holds

module _ (P : ℕ → Type 0) (one : (n : ℕ) → IsProp (P n)) (tell : (n : ℕ) → Dec (P n)) where
  abbrev Least : Type 0
  Least = (n : ℕ) × (P n × ((k : ℕ) → P k → n ≤ k))

  least_prop : IsProp Least
  least_prop a b =
      let low : a.0 ≤ b.0 = a.1.1 b.0 b.1.0 in
      let high : b.0 ≤ a.0 = b.1.1 a.0 a.1.0 in
      Σ_prop_path (λ n. hlevel (one n, le_prop)) (omega arith)

  -- one at m + d, and none below m: the search from m on
  search_from : (d m : ℕ) → P (m + d) → ((k : ℕ) → P k → m ≤ k) → Least
  search_from zero m p below = (m, (subst P (omega arith) p, below))
  search_from (suc d) m p below = go (tell m) (search_from d (suc m) (subst P (omega arith) p))
    where
      past : (P m → ⊥) → (k : ℕ) → P k → Dec (k ≡ m) → suc m ≤ k
      past h k q (yes e) = absurd (h (subst P e q))
      past h k q (no n) = omega (arith, below k q)

      go : Dec (P m) → (((k : ℕ) → P k → suc m ≤ k) → Least) → Least
      go (yes h) rest = (m, (h, below))
      go (no h) rest = rest (λ k q. past h k q (ℕ_discrete k m))

  found : ∥ ((n : ℕ) × P n) ∥₁ → Least
  found t = ∥∥₁_elim t least_prop (λ u. search_from u.0 0 (subst P (omega arith) u.1) (λ k q. omega arith))

-- ---- the fact

estimate_discrete : Discrete Estimate
estimate_discrete a b = go (ℕ_discrete a.size b.size) (ℕ_discrete a.least b.least) (ℕ_discrete a.prefix b.prefix)
  where
    go : Dec (a.size ≡ b.size) → Dec (a.least ≡ b.least) → Dec (a.prefix ≡ b.prefix) → Dec (a ≡ b)
    go (yes p) (yes q) (yes r) = yes (λ i. record { size = p i; least = q i; prefix = r i })
    go (no p) q r = no (λ e. p (ap (λ (x : Estimate). x.size) e))
    go (yes p) (no q) r = no (λ e. q (ap (λ (x : Estimate). x.least) e))
    go (yes p) (yes q) (no r) = no (λ e. r (ap (λ (x : Estimate). x.prefix) e))

module _ {ks : List NodeRecord} {figures : List Estimate} (t : ∥ Walkable ks figures ∥₁) where
  abbrev Fits : ℕ → Type 0
  Fits wrap = take (length ks) figures ≡ estimates wrap ks

  one : (wrap : ℕ) → IsProp (Fits wrap)
  one wrap = hedberg (List-discrete estimate_discrete) _ _

  least : (wrap : ℕ) × (Fits wrap × ((k : ℕ) → Fits k → wrap ≤ k))
  least = found Fits one (λ wrap. List-discrete estimate_discrete _ _) (∥∥₁_map t (λ p. (p.measured.wrap, p.measured.figures_are)))

  pub walkable : Walkable ks figures
  walkable = record {
    lined = ∥∥₁_elim t (hlevel (le_prop, ℕ_set)) (λ p. p.lined);
    sheet = ∥∥₁_elim t (hlevel (le_prop, ℕ_set, Bool-set)) (λ p. p.sheet);
    sound = ∥∥₁_elim t (hlevel (le_prop, ℕ_set, Bool-set)) (λ p. p.sound);
    measured = record {
      wrap = least.0;
      figures_are = least.1.0;
      enough = ∥∥₁_elim t le_prop (λ p. p.measured.enough);
      fits = ∥∥₁_elim t (hlevel le_prop) (λ p. rw (sym p.measured.figures_are ∙ least.1.0) at p.measured.fits);
    };
    small = ∥∥₁_elim t (hlevel le_prop) (λ p. p.small);
  }

-- Each word names the kind of its name, and each kind that the rules name has its name's place: computed.
use Rattle.std.specs.Prelude.{◌≡◌, refl, [], ◌∷◌, map, length}
use Rattle.kinds.specs.Words.{word}
use Rattle.kinds.specs.declared.Kind.TheVariants.{Text, Img, Svg, Container, Link, Em, Strong, Strike, Code, Block, Head, Div, Quote, Ul, Ol, Dl, Dt, Dd, Break, Table, Body, Row, Cell, Frag, Item, Sup, Calc}
use Rattle.kinds.specs.Kinds.{kinds, kind_number, kind_at, text_kind, img_kind, svg_kind, link_kind, head_kind, quote_kind, ul_kind, ol_kind, dd_kind, break_kind, table_kind, body_kind, row_kind, cell_kind, frag_kind, calc_kind, kind_names, kind_count, same, place, kind_of}

-- the kind at the place of each word
words_are :
    map (λ w. kind_at (kind_of w))
    (word "text" ∷ word "img" ∷ word "svg" ∷ word "container" ∷ word "link" ∷ word "em" ∷ word "strong" ∷ word "strike" ∷ word "code" ∷ word "block"
    ∷ word "head" ∷ word "div" ∷ word "quote" ∷ word "ul" ∷ word "ol" ∷ word "dl" ∷ word "dt" ∷ word "dd" ∷ word "break" ∷ word "table" ∷ word "body"
    ∷ word "row" ∷ word "cell" ∷ word "frag" ∷ word "item" ∷ word "sup" ∷ word "calc" ∷ [])
    ≡ Text ∷ Img ∷ Svg ∷ Container ∷ Link ∷ Em ∷ Strong ∷ Strike ∷ Code ∷ Block ∷ Head ∷ Div ∷ Quote ∷ Ul ∷ Ol ∷ Dl ∷ Dt ∷ Dd ∷ Break
    ∷ Table ∷ Body ∷ Row ∷ Cell ∷ Frag ∷ Item ∷ Sup ∷ Calc ∷ []
unfolding kind_at kind_of place same
words_are = refl

-- the places of the kinds are those of the variants
numbers_are :
    map kind_number kinds
    ≡ 0 ∷ 1 ∷ 2 ∷ 3 ∷ 4 ∷ 5 ∷ 6 ∷ 7 ∷ 8 ∷ 9 ∷ 10 ∷ 11 ∷ 12 ∷ 13 ∷ 14 ∷ 15 ∷ 16 ∷ 17 ∷ 18 ∷ 19 ∷ 20 ∷ 21 ∷ 22 ∷ 23 ∷ 24 ∷ 25 ∷ 26 ∷ []
numbers_are = refl

kinds_are :
    map kind_of
    (word "text" ∷ word "img" ∷ word "svg" ∷ word "link" ∷ word "head" ∷ word "quote" ∷ word "ul" ∷ word "ol" ∷ word "dd" ∷ word "break" ∷ word "table"
    ∷ word "body" ∷ word "row" ∷ word "cell" ∷ word "frag" ∷ word "calc" ∷ [])
    ≡ text_kind ∷ img_kind ∷ svg_kind ∷ link_kind ∷ head_kind ∷ quote_kind ∷ ul_kind ∷ ol_kind ∷ dd_kind ∷ break_kind ∷ table_kind ∷ body_kind ∷ row_kind ∷ cell_kind ∷ frag_kind ∷ calc_kind ∷ []
unfolding kind_of place same
kinds_are = refl

kinds_counted : length kind_names ≡ kind_count
kinds_counted = refl

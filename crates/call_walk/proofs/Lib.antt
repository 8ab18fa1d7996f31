pub mod WalkCall

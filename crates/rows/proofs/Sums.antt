-- Sums over a list as they are made item by item: the lengths of entries, and how many pieces are new. Assumes nothing.
use Rattle.std.proofs.Common.{◌≡◌, ℕ, ◌+◌, ◌-◌, ◌^◌, min, cond, count_by, fold, List, Some, None, Option, ◌∙◌, sym, ap, refl, arith}
use Rattle.std.specs.Option.{is_none}
use Rattle.std.proofs.lemmas.List.Folds.{fold_along}
use Rattle.std.proofs.lemmas.List.Recursion.{is_sum_by, is_count_by}
use Rattle.rows.specs.declared.piece.Piece.{Piece}
use Rattle.rows.specs.declared.entry.Entry.{Entry}
use Rattle.rows.specs.Pieces.{frames, one_if_loose, count_of_new}
use Rattle.rows.specs.Entries.{total}
use Rattle.rows.specs.Cutting.{wholes}

-- a sum that is held at the largest number after each entry
pub held : (es : List Entry) (r : ℕ) → r ≡ fold (λ s e. min (s + e.len) (2 ^ 64 - 1)) 0 es → r ≡ min (total es) (2 ^ 64 - 1)
held es r is =
    is ∙ fold_along (λ s e. min (s + e.len) (2 ^ 64 - 1)) (λ s e. s + e.len) (λ b c. b ≡ min c (2 ^ 64 - 1)) (λ b c e h. omega (arith, h)) 0 0 es (omega arith)

-- the blocks of a row have as many frames as its entries say
pub total_frames : (es : List Entry) → total es ≡ frames (wholes es)
total_frames es = sym (is_sum_by (λ es. frames (wholes es)) (λ e. e.len) refl (λ _ _. refl) es)

-- such a sum, told of the row's blocks
pub held_frames : (es : List Entry) (r : ℕ) → r ≡ fold (λ s e. min (s + e.len) (2 ^ 64 - 1)) 0 es → r ≡ min (frames (wholes es)) (2 ^ 64 - 1)
held_frames es r is = held es r is ∙ ap (λ n. min n (2 ^ 64 - 1)) (total_frames es)

one_more : (o : Option ℕ) (n : ℕ) → one_if_loose o + n ≡ cond (is_none o) (1 + n) n
one_more None n = refl
one_more (Some b) n = omega arith

-- the new pieces are those that have no block
pub counted : (ps : List Piece) (n : ℕ) → n ≡ count_by (λ p. is_none p.block) ps → n ≡ count_of_new ps
counted ps n is = is ∙ sym (is_count_by count_of_new (λ p. is_none p.block) refl (λ p ps. one_more p.block (count_of_new ps)) ps)

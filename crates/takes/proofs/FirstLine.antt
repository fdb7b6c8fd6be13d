-- A text is its first line and the lines behind it. Assumes nothing.
use Rattle.std.proofs.Common.{◌≡◌, ℕ, suc, ◌+◌, ◌<◌, ◌≤◌, Bool, true, false, not, cond, Option, Some, None, eqb, ltb, Bor, ◌⊎◌, inl, inr, List, [], ◌∷◌, length, take, drop, sym, refl, ap, ◌∙◌, add-one, arith}
use Rattle.std.specs.List.{position, position_or_len}
use Rattle.std.specs.Option.{unwrap_or}
use Rattle.std.specs.Slice.{IsGetRangeResult}
use Rattle.std.proofs.lemmas.Bool.{ltb-false}
use Rattle.std.proofs.lemmas.List.{take_rest, drop_all}
use Rattle.std.proofs.lemmas.List.Sums.{prefix_len-le-length}
use Rattle.std.proofs.lemmas.List.Recursion.{is_position_or_len}
use Rattle.takes.specs.Lines.{in_front, lines, first_line}

abbrev end_of : List ℕ → ℕ
end_of text = length (first_line text)

-- the first line ends at the first line feed, or at the text's end
ends_at_feed : (text : List ℕ) → end_of text ≡ position_or_len (λ b. eqb b 10) text
ends_at_feed = is_position_or_len end_of (λ b. eqb b 10) refl (λ b bs. by_byte b bs (eqb b 10))
  where
    by_byte : (b : ℕ) (bs : List ℕ) (feed : Bool) → length (cond feed [] (b ∷ first_line bs)) ≡ cond feed 0 (1 + end_of bs)
    by_byte b bs true = refl
    by_byte b bs false = omega arith

-- so it is found by its place
pub end_is_found : (text : List ℕ) (o : Option ℕ) → o ≡ position (λ b. eqb b 10) text → unwrap_or o (length text) ≡ end_of text
end_is_found text o found =
    ap (λ p. unwrap_or p (length text)) found
    ∙ by_test (ltb (position_or_len (λ b. eqb b 10) text) (length text)) refl
    ∙ sym (ends_at_feed text)
  where
    by_test : (t : Bool) → ltb (position_or_len (λ b. eqb b 10) text) (length text) ≡ t → unwrap_or (cond t (Some (position_or_len (λ b. eqb b 10) text)) None) (length text) ≡ position_or_len (λ b. eqb b 10) text
    by_test true found = refl
    by_test false past = let whole : length text ≡ position_or_len (λ b. eqb b 10) text = omega (arith, ltb-false _ _ past, prefix_len-le-length (λ b. not (eqb b 10)) text) in whole

-- what stands from n on, or nothing where that is past the end
pub from_on : (text : List ℕ) (n : ℕ) (o : Option (Bor (List ℕ))) (none : Bor (List ℕ)) → IsGetRangeResult text n (length text) o → none.now ≡ [] → (unwrap_or o none).now ≡ drop n text
from_on text n None none past empty = empty ∙ sym (drop_all n text (by_past past.0))
  where
    by_past : (length text < n) ⊎ (length text < length text) → length text ≤ n
    by_past (inl far) = omega arith
    by_past (inr never) = omega arith
from_on text n (Some x) none part empty = part.0.2 ∙ take_rest text n

-- what the first line is and what stands behind it, where that is known of the text without its first byte
line_step : (b : ℕ) (bs : List ℕ) → in_front b (lines bs) ≡ (b ∷ take (end_of bs) bs) ∷ lines (drop (suc (end_of bs)) bs) → lines (b ∷ bs) ≡ take (end_of (b ∷ bs)) (b ∷ bs) ∷ lines (drop (suc (end_of (b ∷ bs))) (b ∷ bs))
line_step b bs rest = by_byte (eqb b 10)
  where
    by_byte : (feed : Bool) → cond feed ([] ∷ lines bs) (in_front b (lines bs)) ≡ take (length (cond feed [] (b ∷ first_line bs))) (b ∷ bs) ∷ lines (drop (suc (length (cond feed [] (b ∷ first_line bs)))) (b ∷ bs))
    by_byte true = refl
    by_byte false = rest

line_first : (b : ℕ) (bs : List ℕ) → lines (b ∷ bs) ≡ take (end_of (b ∷ bs)) (b ∷ bs) ∷ lines (drop (suc (end_of (b ∷ bs))) (b ∷ bs))
line_first b [] = line_step b [] refl
line_first b (c ∷ cs) = line_step b (c ∷ cs) (ap (in_front b) (line_first c cs))

-- a text that is not empty is its first line and the lines behind it
pub lines_behind : (text : List ℕ) → 0 < length text → lines text ≡ take (end_of text) text ∷ lines (drop (end_of text + 1) text)
lines_behind [] some = absurd (omega arith)
lines_behind (b ∷ bs) some = line_first b bs ∙ ap (λ n. take (end_of (b ∷ bs)) (b ∷ bs) ∷ lines (drop n (b ∷ bs))) (sym (add-one (end_of (b ∷ bs))))

-- What one turn of the loops of `mend` and `pieces_of` keeps. Assumes nothing.
use Rattle.std.proofs.Common.{◌≡◌, ℕ, ◌+◌, ◌-◌, ◌<◌, List, ◌++◌, length, get_or, drop, Option, option_to_list, append_assoc, arith}
use Rattle.std.proofs.lemmas.List.{drop_more}
use Rattle.rows.specs.declared.piece.Piece.{Piece}
use Rattle.rows.specs.declared.mending.Met.{Met}
use Rattle.rows.specs.declared.entry.Entry.{Entry}
use Rattle.rows.specs.Mending.{meeting, mended_from}
use Rattle.rows.specs.Cutting.{part_of, cut}

pub mend_again : (L : ℕ) (a : Piece) (xs : List Piece) (i : ℕ) (d : Piece) (s : Met) (out more all : List Piece) → i < length xs → s ≡ meeting L a (get_or xs i d) → more ≡ out ++ option_to_list s.settled → out ++ mended_from L a (drop i xs) ≡ all → more ++ mended_from L s.last (drop (i + 1) xs) ≡ all
mend_again L a xs i d s out more all h is pushed inv =
    grind (arith, is, pushed, inv, drop_more xs i d h, append_assoc out (option_to_list s.settled))

pub cut_again : (es : List Entry) (i : ℕ) (d : Entry) (f t f' t' : ℕ) (o : Option Piece) (out more all : List Piece) → i < length es → o ≡ part_of (get_or es i d) f t → f' ≡ f - (get_or es i d).len → t' ≡ t - (get_or es i d).len → more ≡ out ++ option_to_list o → out ++ cut (drop i es) f t ≡ all → more ++ cut (drop (i + 1) es) f' t' ≡ all
cut_again es i d f t f' t' o out more all h is fs ts pushed inv =
    grind (arith, is, fs, ts, pushed, inv, drop_more es i d h, append_assoc out (option_to_list o))

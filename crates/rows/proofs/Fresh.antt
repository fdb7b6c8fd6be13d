-- Mending what an edit leaves makes at most four new blocks. Assumes nothing.
use Rattle.std.proofs.Common.{◌≡◌, ℕ, ◌+◌, ◌/◌, ◌≤◌, ◌⊎◌, List, [], ◌∷◌, ◌++◌, Some, None, Option, sym, subst, inl, inr, append-nil, arith}
use Rattle.std.specs.List.{AllByRecursion}
use Rattle.rows.specs.declared.piece.Piece.{Piece}
use Rattle.rows.specs.declared.mending.Met.{Met}
use Rattle.rows.specs.Pieces.{loose_of, emit, one_if_loose, count_of_new, Whole, Sized}
use Rattle.rows.specs.Mending.{mended, mended_from}
use Rattle.rows.specs.Laws.{FullBlocks, RowBlocks, OneLoose, PutIn, Edited}
use Rattle.rows.proofs.Ways.{Way, apart, one, two, way}

at_most_one : (o : Option ℕ) → one_if_loose o ≤ 1
at_most_one None = omega arith
at_most_one (Some b) = omega arith

-- the new blocks of what is mended from a on
abbrev fresh : ℕ → Piece → List Piece → ℕ
fresh L a ps = count_of_new (mended_from L a ps)

-- mending these pieces, after any other or none, makes at most n new blocks from the last of the list on
pub record Few (L : ℕ) (ps : List Piece) (n : ℕ) : Type 0 where
  pub alone : count_of_new (mended L ps) ≤ n
  pub past : (a : Piece) → fresh L a ps ≤ n

module _ (L : ℕ) where
  none : Few L [] 1
  none = record { alone = omega arith; past = λ a. omega (arith, at_most_one a.block) }

  more : {ps : List Piece} (m n : ℕ) → m ≤ n → Few L ps m → Few L ps n
  more m n h f = record { alone = omega (arith, f.alone); past = λ a. omega (arith, f.past a) }

  -- one piece more in front costs at most one new block more
  next_way : (a p : Piece) (ps : List Piece) (n : ℕ) {s : Met} → Way L a p s → ((b : Piece) → fresh L b ps ≤ n) → count_of_new (emit s.settled (mended_from L s.last ps)) ≤ n + 1
  next_way a p ps n (apart u v) f = omega (arith, f p, at_most_one a.block)
  next_way a p ps n (one t is fit sm) f = omega (arith, f (loose_of t))
  next_way a p ps n (two h k is half up down sm) f = omega (arith, f (loose_of k))

  next : (p : Piece) (ps : List Piece) (n : ℕ) → Few L ps n → Few L (p ∷ ps) (n + 1)
  next p ps n f = record { alone = omega (arith, f.past p); past = λ a. next_way a p ps n (way L a p) f.past }

  -- after a large piece, which may be new itself, rest makes at most n new blocks; after any at most n + 2
  module _ (rest : List Piece) (n : ℕ) (few : Few L rest (n + 2)) (after : (b : Piece) → L / 2 ≤ b.len → fresh L b rest ≤ one_if_loose b.block + n) where
    large_way : (a p : Piece) (ps : List Piece) {s : Met} → Way L a p s → L / 2 ≤ a.len → Whole p → L / 2 ≤ p.len → fresh L p ps ≤ one_if_loose p.block + n → count_of_new (emit s.settled (mended_from L s.last ps)) ≤ one_if_loose a.block + n
    large_way a p ps (apart u v) h w k f = omega arith
    large_way a p ps (one t is fit sm) h w k f = absurd (omega (arith, sm h))
    large_way a p ps (two x y is half up down sm) h w k f = absurd (omega (arith, sm h))

    -- blocks after a large piece stay as they are
    large : (a : Piece) (bs : List Piece) → L / 2 ≤ a.len → FullBlocks L bs → fresh L a (bs ++ rest) ≤ one_if_loose a.block + n
    large a [] h all = after a h
    large a (b ∷ bs) h all = large_way a b (bs ++ rest) (way L a b) h all.0.0 all.0.1.0 (large b bs all.0.1.0 all.1)

    any_way : (a b : Piece) (bs : List Piece) {s : Met} → Way L a b s → Whole b → L / 2 ≤ b.len → FullBlocks L bs → count_of_new (emit s.settled (mended_from L s.last (bs ++ rest))) ≤ n + 2
    any_way a b bs (apart u v) w k all = omega (arith, large b bs v all, at_most_one a.block)
    any_way a b bs (one t is fit sm) w k all = omega (arith, large (loose_of t) bs (omega arith) all)
    any_way a b bs (two x y is half up down sm) w k all = omega (arith, large (loose_of y) bs (omega arith) all)

    any : (a : Piece) (bs : List Piece) → FullBlocks L bs → fresh L a (bs ++ rest) ≤ n + 2
    any a [] all = few.past a
    any a (b ∷ bs) all = any_way a b bs (way L a b) all.0.0 all.0.1.0 all.1

    blocks_few : (bs : List Piece) → FullBlocks L bs → Few L (bs ++ rest) (n + 2)
    blocks_few [] all = few
    blocks_few (b ∷ bs) all = record { alone = any b bs all.1; past = λ a. any a (b ∷ bs) all }

    cut_way : (a l : Piece) (bs : List Piece) {s : Met} → Way L a l s → FullBlocks L bs → count_of_new (emit s.settled (mended_from L s.last (bs ++ rest))) ≤ n + 2
    cut_way a l bs (apart u v) all = omega (arith, large l bs v all, at_most_one a.block, at_most_one l.block)
    cut_way a l bs (one t is fit sm) all = any (loose_of t) bs all
    cut_way a l bs (two x y is half up down sm) all = omega (arith, large (loose_of y) bs (omega arith) all)

    -- and so with one piece before the blocks
    cut_few : (l : Piece) (bs : List Piece) → FullBlocks L bs → Few L (l ∷ (bs ++ rest)) (n + 2)
    cut_few l bs all = record { alone = any l bs all; past = λ a. cut_way a l bs (way L a l) all }

  blocks_of : (ps : List Piece) → AllByRecursion Whole ps → AllByRecursion (Sized L) ps → FullBlocks L ps
  blocks_of [] w s = tt
  blocks_of (p ∷ ps) w s = ((w.0, s.0), blocks_of ps w.1 s.1)

  nothing_after : (b : Piece) → L / 2 ≤ b.len → fresh L b [] ≤ one_if_loose b.block + 0
  nothing_after b h = omega arith

  ends_few : (right after : List Piece) → ((right ≡ []) × RowBlocks L after) ⊎ (OneLoose L right × FullBlocks L after) → Few L (right ++ after) 2
  ends_few right after (inl (e, (whole, inl sized))) =
      subst (λ r. Few L (r ++ after) 2) (sym e)
      (subst (λ r. Few L r 2) (append-nil after) (blocks_few [] 0 (more 1 2 (omega arith) none) nothing_after after (blocks_of after whole sized)))
  ends_few right after (inl (e, (whole, inr (p, is, low, h)))) =
      subst (λ r. Few L (r ++ after) 2) (sym e) (subst (λ r. Few L r 2) (sym is) (next p [] 1 none))
  ends_few right after (inr ((m, is, low, high), blocks)) =
      subst (λ r. Few L (r ++ after) 2) (sym is)
      (subst (λ r. Few L (loose_of m ∷ r) 2) (append-nil after) (cut_few [] 0 (more 1 2 (omega arith) none) nothing_after (loose_of m) after blocks))

  -- one piece, after at most one more
  one_few : (left : List Piece) (p : Piece) (rest : List Piece) → Few L rest 2 → (left ≡ []) ⊎ OneLoose L left → Few L (left ++ (p ∷ rest)) 4
  one_few left p rest f (inl e) = subst (λ l. Few L (l ++ (p ∷ rest)) 4) (sym e) (more 3 4 (omega arith) (next p rest 2 f))
  one_few left p rest f (inr (m, is, low, high)) = subst (λ l. Few L (l ++ (p ∷ rest)) 4) (sym is) (next (loose_of m) (p ∷ rest) 3 (next p rest 2 f))

  row_few : (left bs rest : List Piece) → Few L rest 2 → (left ≡ []) ⊎ OneLoose L left → FullBlocks L bs → Few L (left ++ (bs ++ rest)) 4
  row_few left bs rest f (inl e) all =
      subst (λ l. Few L (l ++ (bs ++ rest)) 4) (sym e) (blocks_few rest 2 (more 2 4 (omega arith) f) (λ b h. omega (arith, f.past b)) bs all)
  row_few left bs rest f (inr (m, is, low, high)) all =
      subst (λ l. Few L (l ++ (bs ++ rest)) 4) (sym is) (cut_few rest 2 (more 2 4 (omega arith) f) (λ b h. omega (arith, f.past b)) (loose_of m) bs all)

  middle_few : (left middle rest : List Piece) → Few L rest 2 → (left ≡ []) ⊎ OneLoose L left → PutIn L middle → Few L (left ++ (middle ++ rest)) 4
  middle_few left middle rest f l (inl (whole, inl sized)) = row_few left middle rest f l (blocks_of middle whole sized)
  middle_few left middle rest f l (inl (whole, inr (p, is, low, h))) = subst (λ m. Few L (left ++ (m ++ rest)) 4) (sym is) (one_few left p rest f l)
  middle_few left middle rest f l (inr (n, is, low, high)) = subst (λ m. Few L (left ++ (m ++ rest)) 4) (sym is) (one_few left (loose_of n) rest f l)

  before_few : (before rest : List Piece) → Few L rest 4 → RowBlocks L before → count_of_new (mended L (before ++ rest)) ≤ 4
  before_few [] rest f row = f.alone
  before_few (b ∷ bs) rest f (whole, inl sized) =
      omega (arith, large rest 4 (more 4 6 (omega arith) f) (λ c h. omega (arith, f.past c)) b bs sized.0.0 (blocks_of bs whole.1 sized.1), whole.0)
  before_few (b ∷ bs) rest f (whole, inr (p, is, low, h)) =
      subst (λ ps. count_of_new (mended L (ps ++ rest)) ≤ 4) (sym is) (f.past p)

pub four_new : (L : ℕ) (ps : List Piece) → Edited L ps → count_of_new (mended L ps) ≤ 4
four_new L ps e =
    subst (λ l. count_of_new (mended L l) ≤ 4) (sym e.joined)
    (before_few L e.before _ (middle_few L e.left e.middle _ (ends_few L e.right e.after e.ends) e.cut_left e.put_in) e.begins)

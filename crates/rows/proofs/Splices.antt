-- A row that is spliced or copied from: it is what an edit leaves, so it is mended well. Assumes nothing.
use Rattle.std.proofs.Common.{◌≡◌, ℕ, ◌+◌, ◌≤◌, List, [], ◌∷◌, ◌++◌, sym, refl, ap, ◌∙◌, subst, inl, inr, ⊎_elim, append_assoc, append-nil, arith}
use Rattle.std.specs.List.{AllByRecursion}
use Rattle.std.proofs.ByRecursion.{All-append, All-weaker}
use Rattle.rows.specs.declared.piece.Piece.{Piece}
use Rattle.rows.specs.declared.entry.Entry.{Entry}
use Rattle.rows.specs.Pieces.{frames, Within, Sized, WellSized}
use Rattle.rows.specs.Cutting.{cut, wholes}
use Rattle.rows.specs.Laws.{PutIn, spliced, SpliceShape, SpliceFew, SpliceSized, SpliceFrames, CopyShape, CopyFew, CopySized, CopyFrames}
use Rattle.rows.proofs.Keeps.{frames_kept, sizes_stand}
use Rattle.rows.proofs.Fresh.{four_new}
use Rattle.rows.proofs.Parts.{cut_frames, within_cut}
use Rattle.rows.proofs.Spans.{span_of}

pub copy_shape : CopyShape
copy_shape L es f t row =
    let s = span_of L es f t row in
    record {
      before = [];
      left = s.left;
      middle = s.middle;
      right = s.right;
      after = [];
      joined = s.joined ∙ ap (λ r. s.left ++ (s.middle ++ r)) (sym (append-nil s.right));
      begins = (tt, inl tt);
      cut_left = ⊎_elim inl (λ h. inr h.0) s.left_is;
      put_in = inl s.middle_is;
      ends = ⊎_elim (λ e. inl (e, (tt, inl tt))) (λ h. inr (h, tt)) s.right_is;
    }

pub splice_shape : SpliceShape
splice_shape L es f t ms row m =
    let s = span_of L es 0 f row in
    let r = span_of L es t (frames (wholes es)) row in
    let front : cut es 0 f ≡ s.middle ++ s.right = s.joined ∙ ap (λ l. l ++ (s.middle ++ s.right)) (s.from_start refl) in
    let back : cut es t (frames (wholes es)) ≡ r.left ++ r.middle = r.joined ∙ ap (λ l. r.left ++ (r.middle ++ l)) (r.to_end (omega arith)) ∙ ap (λ l. r.left ++ l) (append-nil r.middle) in
    record {
      before = s.middle;
      left = s.right;
      middle = ms;
      right = r.left;
      after = r.middle;
      joined = (λ i. front i ++ (ms ++ back i)) ∙ append_assoc s.middle s.right (ms ++ (r.left ++ r.middle));
      begins = s.middle_is;
      cut_left = s.right_is;
      put_in = m;
      ends = ⊎_elim (λ e. inl (e, r.middle_is)) inr r.left_is;
    }

module _ (L : ℕ) where
  -- the blocks of a well-sized row have 1 to L frames
  pub well_within : 2 ≤ L → (ps : List Piece) → WellSized L ps → AllByRecursion (Within L) ps
  well_within two ps (inl zs) = All-weaker (Sized L) (Within L) (λ p z. (omega arith, z.1)) ps zs
  well_within two ps (inr (p, is, low, h)) = subst (AllByRecursion (Within L)) (sym is) ((low, omega arith), tt)

  pub put_within : 2 ≤ L → (ms : List Piece) → PutIn L ms → AllByRecursion (Within L) ms
  put_within two ms (inl row) = well_within two ms row.1
  put_within two ms (inr (n, is, low, high)) = subst (AllByRecursion (Within L)) (sym is) ((low, high), tt)

  pub spliced_within : (es : List Entry) (f t : ℕ) (ms : List Piece) → AllByRecursion (Within L) (wholes es) → AllByRecursion (Within L) ms → AllByRecursion (Within L) (spliced es f t ms)
  spliced_within es f t ms zs ws =
      let back = cut es t (frames (wholes es)) in
      All-append (Within L) (cut es 0 f) (ms ++ back) (within_cut L es 0 f zs) (All-append (Within L) ms back ws (within_cut L es t (frames (wholes es)) zs))

pub frames_append : (ps qs : List Piece) → frames (ps ++ qs) ≡ frames ps + frames qs
frames_append [] qs = omega arith
frames_append (p ∷ ps) qs = omega (arith, frames_append ps qs)

pub splice_few : SpliceFew
splice_few L es f t ms row m = four_new L (spliced es f t ms) (splice_shape L es f t ms row m)

pub splice_sized : SpliceSized
splice_sized L es f t ms two row m =
    sizes_stand L (spliced es f t ms) (spliced_within L es f t ms (well_within L two (wholes es) row) (put_within L two ms m))

pub splice_frames : SpliceFrames
splice_frames L es f t ms h k =
    let back = cut es t (frames (wholes es)) in
    omega (arith, frames_kept L (spliced es f t ms), frames_append (cut es 0 f) (ms ++ back), frames_append ms back, cut_frames es 0 f (omega arith) (omega arith), cut_frames es t (frames (wholes es)) (omega arith) (omega arith))

pub copy_few : CopyFew
copy_few L es f t row = four_new L (cut es f t) (copy_shape L es f t row)

pub copy_sized : CopySized
copy_sized L es f t two row = sizes_stand L (cut es f t) (within_cut L es f t (well_within L two (wholes es) row))

pub copy_frames : CopyFrames
copy_frames L es f t h k = frames_kept L (cut es f t) ∙ cut_frames es f t h k

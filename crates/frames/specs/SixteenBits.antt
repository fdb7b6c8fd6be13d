-- Mono and stereo frames: known by their numbers, and inverse to their bytes and lines. Assumes nothing.
use Rattle.std.specs.Prelude.{◌≡◌, ℕ, suc, ◌+◌, ◌-◌, ◌*◌, ◌^◌, ◌<◌, ◌≤◌, Bool, true, false, cond, List, [], ◌∷◌, ◌++◌, length, take, drop, ℤ, pos, negsuc, Some, None, Option, ◌==◌, ◌≢◌, nat_lt, slice_index, refl}
use Rattle.std.proofs.Common.{sym, subst, ap, ◌∙◌, arith, take-append-drop, length-take, length-drop}
use Rattle.std.proofs.Math.Bridge.{le_prop}
use Rattle.std.specs.Int.Signed.{mag}
use mir.Val.{to_z, of_z, sel}
use Rattle.std.specs.Int.{w16}
use Rattle.std.specs.Option.{option_map}
use Rattle.std.specs.List.{AllByRecursion}
use Rattle.std.proofs.ByRecursion.{All-take, All-drop}
use Rattle.std.proofs.lemmas.Bool.{cond-true, eqb-true, eq-eqb}
use Rattle.std.proofs.lemmas.Int.{of_z-to_z}
use Rattle.frames.specs.Twos.{unsigned}
use Rattle.frames.specs.Digits.{number}
use Rattle.frames.specs.Hex.{hex_number}
use Rattle.frames.specs.Samples.{square}
use Rattle.frames.specs.Monos.{mono_of, mono_of_bits, mono_bytes, mono_from, mono_line, mono_parsed}
use Rattle.frames.specs.Stereos.{stereo_of, both, stereo_bytes, stereo_from, stereo_line, stereo_parsed}
use Rattle.frames.specs.declared.mono.Mono.{Mono}
use Rattle.frames.specs.declared.stereo.Stereo.{Stereo}
use Rattle.frames.specs.Numbers.{unsigned_lt, signed_unsigned, wrapped}
use Rattle.frames.specs.SamplesLemmas.{sample_decodes, sample_encodes, sample_parses, sample_spells, square_le}

pub same_mono : (x y : Mono) → x.value ≡ y.value → x ≡ y
same_mono x y e =
    subst (λ (v : ℤ). (g : mag v < 2 ^ 15) → x ≡ mono_of v g) e (λ g. ap (mono_of x.value) (le_prop x.fits g)) y.fits

cond_sel : (b : Bool) (x y : ℤ) → cond b x y ≡ sel b x y
cond_sel true x y = refl
cond_sel false x y = refl

-- the sample of 16 bits is what the language's cast computes
pub bits_cast : (n : ℕ) → n < 2 ^ 16 → (mono_of_bits n).value ≡ to_z w16 n
bits_cast n small = wrapped (2 ^ 15) n small ∙ cond_sel (nat_lt n (2 ^ 15)) (pos n) (negsuc (2 ^ 16 - suc n))

-- a frame whose value the language casts from 16 bits is the one that they stand for
pub mono_cast : (x : Mono) (z : ℤ) (n : ℕ) → n < 2 ^ 16 → x.value ≡ to_z w16 (of_z w16 z) → z ≡ to_z w16 n → x ≡ mono_of_bits n
mono_cast x z n small made is =
    same_mono x (mono_of_bits n) (made ∙ ap (λ v. to_z w16 (of_z w16 v)) is ∙ ap (to_z w16) (of_z-to_z w16 n small) ∙ sym (bits_cast n small))

-- two bytes are a number of 16 bits
pub two_bytes : (bs : List ℕ) → length bs ≡ 2 → AllByRecursion (λ b. b < 256) bs → (number 256 bs < 2 ^ 16) × (slice_index bs 0 + slice_index bs 1 * 256 ≡ number 256 bs)
two_bytes [] l all = absurd (omega arith)
two_bytes (a ∷ []) l all = absurd (omega arith)
two_bytes (a ∷ b ∷ []) l all = (omega arith, omega arith)
two_bytes (a ∷ b ∷ c ∷ bs) l all = absurd (omega arith)

-- what two bytes make
pub bytes_cast : (bs : List ℕ) → length bs ≡ 2 → AllByRecursion (λ b. b < 256) bs → (mono_from bs).value ≡ to_z w16 (slice_index bs 0 + slice_index bs 1 * 256)
bytes_cast bs l all =
    let two = two_bytes bs l all in
    bits_cast (number 256 bs) two.0 ∙ ap (to_z w16) (sym two.1)

-- the frame that bytes of the right number give
pub bytes_read : (bs : List ℕ) (x : Mono) → length bs ≡ 2 → Some x ≡ cond (length bs == 2) (Some (mono_from bs)) None → x ≡ mono_from bs
bytes_read bs x l read = let e = cond-true _ (Some (mono_from bs)) None (eq-eqb (length bs) 2 l) in cc

pub mono_decodes : (x : Mono) → mono_from (mono_bytes x) ≡ x
mono_decodes x = same_mono _ x (sample_decodes (2 ^ 15) 2 x.value refl x.fits)

pub mono_encodes : (bs : List ℕ) → length bs ≡ 2 → AllByRecursion (λ b. b < 256) bs → mono_bytes (mono_from bs) ≡ bs
mono_encodes bs l all = sample_encodes (2 ^ 15) 2 bs refl l all

pub mono_bounded : (x : Mono) → square x.value ≤ 2 ^ 30
mono_bounded x = square_le (2 ^ 15) x.value x.fits

pub mono_parses : (x : Mono) → mono_parsed (mono_line x) ≡ Some x
mono_parses x =
    let bits = unsigned (2 ^ 15) x.value in
    ap (option_map mono_of_bits) (sample_parses (2 ^ 15) 4 x.value refl x.fits)
    ∙ ap Some (same_mono (mono_of_bits bits) x (wrapped (2 ^ 15) bits (unsigned_lt (2 ^ 15) x.value x.fits) ∙ signed_unsigned (2 ^ 15) x.value x.fits))

-- what a text that is parsed is read as
module _ (text : List ℕ) (x : Mono) where
  abbrev Read : Type 0
  Read = (n : ℕ) × (length text ≡ 4) × (hex_number 0 text ≡ Some n) × (mono_of_bits n ≡ x)

  read_number : length text ≡ 4 → (o : Option ℕ) → hex_number 0 text ≡ o → option_map mono_of_bits o ≡ Some x → Read
  read_number l None is e = absurd (let z : ◌≡◌ {A = ℕ} 0 1 = cc in omega arith)
  read_number l (Some n) is e = (n, l, is, cc)

  read_text : (b : Bool) → (length text == 4) ≡ b → cond b (option_map mono_of_bits (hex_number 0 text)) None ≡ Some x → Read
  read_text true four e = read_number (eqb-true (length text) 4 four) (hex_number 0 text) refl e
  read_text false four e = absurd (let z : ◌≡◌ {A = ℕ} 0 1 = cc in omega arith)

  parsed_read : mono_parsed text ≡ Some x → Read
  parsed_read e = read_text (length text == 4) refl e

pub mono_spells : (text : List ℕ) (x : Mono) → mono_parsed text ≡ Some x → mono_line x ≡ text
mono_spells text x e =
    let got = parsed_read text x e in
    ap mono_line (sym got.3) ∙ sample_spells (2 ^ 15) 4 got.0 text refl got.1 got.2

pub same_stereo : (x y : Stereo) → x.left ≡ y.left → x.right ≡ y.right → x ≡ y
same_stereo x y p q = ap (λ l. stereo_of l x.right) p ∙ ap (stereo_of y.left) q

pub stereo_encodes : (bs : List ℕ) → length bs ≡ 4 → AllByRecursion (λ b. b < 256) bs → stereo_bytes (stereo_from bs) ≡ bs
stereo_encodes bs l all =
    ap (λ ys. ys ++ mono_bytes (mono_from (drop 2 bs))) (mono_encodes (take 2 bs) (omega (arith, length-take 2 bs)) (All-take (λ b. b < 256) 2 bs all))
    ∙ ap (λ ys. take 2 bs ++ ys) (mono_encodes (drop 2 bs) (omega (arith, length-drop 2 bs)) (All-drop (λ b. b < 256) 2 bs all))
    ∙ take-append-drop 2 bs

-- a frame of two parts has both
pub both_some : (l r : Option Mono) (x : Stereo) → both l r ≡ Some x → (l ≡ Some x.left) × (r ≡ Some x.right)
both_some None r x e = absurd (let z : ◌≡◌ {A = ℕ} 0 1 = cc in omega arith)
both_some (Some y) None x e = absurd (let z : ◌≡◌ {A = ℕ} 0 1 = cc in omega arith)
both_some (Some y) (Some z) x e = let same : stereo_of y z ≡ x = cc in (ap (λ (s : Stereo). Some s.left) same, ap (λ (s : Stereo). Some s.right) same)

pub stereo_parses : (x : Stereo) → stereo_parsed (stereo_line x) ≡ Some x
stereo_parses x = ap (λ (l : Option Mono). both l (mono_parsed (mono_line x.right))) (mono_parses x.left) ∙ ap (both (Some x.left)) (mono_parses x.right)

pub stereo_spells : (text : List ℕ) (x : Stereo) → stereo_parsed text ≡ Some x → stereo_line x ≡ text
stereo_spells text x e =
    let parts = both_some (mono_parsed (take 4 text)) (mono_parsed (drop 4 text)) x e in
    ap (λ xs. xs ++ mono_line x.right) (mono_spells (take 4 text) x.left parts.0)
    ∙ ap (λ xs. take 4 text ++ xs) (mono_spells (drop 4 text) x.right parts.1)
    ∙ take-append-drop 4 text

-- a text of another length is no stereo frame's
pub stereo_unparsed : (text : List ℕ) → (length text ≢ 8) → stereo_parsed text ≡ None
stereo_unparsed text other = none (stereo_parsed text) refl
  where
    none : (o : Option Stereo) → stereo_parsed text ≡ o → o ≡ None
    none None e = refl
    none (Some x) e =
        let spelled : stereo_line x ≡ text = stereo_spells text x e in
        absurd (other (sym (ap length spelled)))

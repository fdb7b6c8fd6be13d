-- Two's complement over a half h: the whole numbers from -h to h - 1, of which `mag z < h` tells.
use Rattle.std.specs.Prelude.{ℕ, suc, ◌+◌, ◌-◌, ◌<◌, cond, ℤ, pos, negsuc, nat_lt}
use Rattle.std.proofs.Common.{arith}
use Rattle.std.specs.Int.Signed.{mag}
use Rattle.std.proofs.lemmas.Bool.{cond_both, ltb-true, ltb-false}

-- the number below h + h that stands for z
abbrev pub unsigned : ℕ → ℤ → ℕ
unsigned h (pos n) = n
unsigned h (negsuc n) = (h + h) - suc n

-- the number that n stands for: n itself below h, else n - (h + h)
abbrev pub signed : ℕ → ℕ → ℤ
signed h n = cond (nat_lt n h) (pos n) (negsuc ((h + h) - suc n))

pub mag_signed : (h n : ℕ) → n < h + h → mag (signed h n) < h
mag_signed h n small =
    cond_both (nat_lt n h) (pos n) (negsuc ((h + h) - suc n)) (λ z. mag z < h)
    (λ e. ltb-true n h e) (λ e. omega (arith, ltb-false n h e))

-- A measure's value is known by its numbers. Assumes nothing.
use Rattle.std.specs.Prelude.{◌≡◌, ℕ, ◌^◌, ◌<◌, ◌≤◌, ℤ}
use Rattle.std.proofs.Common.{subst, ap, ◌∙◌}
use Rattle.std.proofs.Math.Bridge.{le_prop}
use Rattle.std.specs.Int.Signed.{mag}
use Rattle.measures.specs.declared.extent.Extent.{Extent}
use Rattle.measures.specs.declared.energy.Energy.{Energy}
use Rattle.measures.specs.Extents.{extent_from}

pub same_energy : (x y : Energy) → x.sum ≡ y.sum → x ≡ y
same_energy x y e =
    let made : (n : ℕ) → n ≤ 2 ^ 53 → Energy = λ n g. record { sum = n; stopped = g } in
    subst (λ (n : ℕ). (g : n ≤ 2 ^ 53) → x ≡ made n g) e (λ g. ap (made x.sum) (le_prop x.stopped g)) y.stopped

same_highs : (l : ℤ) (f g : mag l < 2 ^ 31) (h k : ℤ) (p : mag h < 2 ^ 31) (q : mag k < 2 ^ 31) → h ≡ k → extent_from l h f p ≡ extent_from l k g q
same_highs l f g h k p q e =
    ap (λ v. extent_from l h v p) (le_prop f g)
    ∙ subst (λ (v : ℤ). (r : mag v < 2 ^ 31) → extent_from l h g p ≡ extent_from l v g r) e (λ r. ap (extent_from l h g) (le_prop p r)) q

pub same_extent : (x y : Extent) → x.low ≡ y.low → x.high ≡ y.high → x ≡ y
same_extent x y e d =
    subst (λ (v : ℤ). (g : mag v < 2 ^ 31) → x ≡ extent_from v y.high g y.highs) e (λ g. same_highs x.low x.lows g x.high y.high x.highs y.highs d) y.lows

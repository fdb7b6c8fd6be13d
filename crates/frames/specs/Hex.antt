-- Numbers in hexadecimal digits, highest first.
use Rattle.std.specs.Prelude.{ℕ, zero, suc, ◌+◌, ◌-◌, ◌*◌, ◌/◌, ◌%◌, cond, ◌&&◌, List, [], ◌∷◌, ◌++◌, Some, None, Option, nat_le, nat_lt}
use Rattle.std.specs.Option.{option_and_then}

-- '0' to '9', and then 'A' to 'F'
abbrev pub hex_char : ℕ → ℕ
hex_char d = cond (nat_lt d 10) (48 + d) (55 + d)

-- the number of a digit; any other byte is none
abbrev pub hex_digit : ℕ → Option ℕ
hex_digit b = cond (nat_le 48 b && nat_le b 57) (Some (b - 48)) (cond (nat_le 65 b && nat_le b 70) (Some (b - 55)) None)

-- the k lowest digits of n
abbrev pub hexed : ℕ → ℕ → List ℕ
hexed zero n = []
hexed (suc k) n = hexed k (n / 16) ++ (hex_char (n % 16) ∷ [])

-- the number that the digits of a text write behind those of n; none where a byte is no digit
abbrev pub hex_number : ℕ → List ℕ → Option ℕ
hex_number n [] = Some n
hex_number n (b ∷ bs) = option_and_then (λ d. hex_number (n * 16 + d) bs) (hex_digit b)

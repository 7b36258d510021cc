-- A cost in decimal is its sign and the digits of its magnitude. Assumes nothing.
use mathlib.Core.Path.{◌≡◌, refl}
use mathlib.Core.List.{◌++◌}
use lib.IntN.{ℤ, pos, negsuc, nat_abs}
use Rattle.decimals.specs.Decimal.{decimal, sign_text}
use Rattle.listing.specs.Text.{signed}

pub signed-is : (z : ℤ) → sign_text z ++ decimal (nat_abs z) ≡ signed z
unfolding signed
signed-is (pos n) = refl
signed-is (negsuc n) = refl

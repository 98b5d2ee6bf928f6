-- FIPS 197's example of a product (section 4.2), which document 01 marks under 'Worked'.
--
--   example      57·83 = c1
use Rattle.std.specs.Prelude.{◌≡◌, refl}
use Rattle.lists.specs.Xor.{◌⊕◌}
use Rattle.bytefield.specs.Product.{reduction, xtime, times_bits, ◌⊗◌}

pub example : 0x57 ⊗ 0x83 ≡ 0xc1
unfolding ◌⊗◌ times_bits xtime reduction ◌⊕◌
example = refl

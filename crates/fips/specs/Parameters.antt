-- The parameters of SHAKE256 (FIPS 202, 6.2), in bytes.
--
--   rate             the bytes of a block: KECCAK[512] has the rate 1600 - 512 = 1088 bits            5.2, 6.2
--   domain           the suffix 1111 of SHAKE and the first 1 of pad10*1, lowest bit first            6.2, 5.1, B.2
--   final            the last 1 of pad10*1, at the top of a block's last byte                         5.1, B.2
use Rattle.std.specs.Prelude.{ℕ}

abbrev pub rate : ℕ
rate = 136

abbrev pub domain : ℕ
domain = 0x1f

abbrev pub final : ℕ
final = 0x80

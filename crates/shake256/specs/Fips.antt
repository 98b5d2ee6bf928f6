-- FIPS 202's definition, in blocks, which the contracts cite.
unfoldable pub use Rattle.fips.specs.Shake256.{SHAKE256}

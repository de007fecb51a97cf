-- The hash functions that the definitions of this crate speak of, for crates above that cite them.
pub use Rattle.md5.specs.Md5.{md5}
pub use Rattle.sha1.specs.Sha1.{sha1}
pub use Rattle.sha2.specs.Sha256.{sha256}

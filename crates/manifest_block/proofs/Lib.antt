pub mod Blocks
pub mod ItemTies
pub mod ManifestLaws

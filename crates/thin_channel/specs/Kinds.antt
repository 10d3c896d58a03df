-- Every kind that this crate speaks of, its own and those of the crates below.
pub use Rattle.thin_channel.specs.declared.Channel.{Channel}

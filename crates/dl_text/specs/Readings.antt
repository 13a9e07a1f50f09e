-- The base of readings, under the name of this crate.
pub use Rattle.dl_reading.specs.Readings.{◌>>=◌, then_at, map_at, GivesBy}

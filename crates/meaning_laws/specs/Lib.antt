-- What stays true of a machine at every turn of a run, over any points.
pub mod Kinds
pub mod Lists
pub mod Fits
pub mod Partners
pub mod Calm
pub mod Laws

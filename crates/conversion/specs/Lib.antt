pub mod Bids
pub mod Offers
pub mod Listing

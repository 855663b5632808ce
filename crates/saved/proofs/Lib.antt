pub mod Lists
pub mod RoundTrip

pub mod Entries
pub mod Laws
pub mod Manifests
pub mod Playlists
pub mod Progress
pub mod Reading

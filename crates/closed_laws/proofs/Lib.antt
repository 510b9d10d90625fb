pub mod SoundPlaces
pub mod SoundRecovery

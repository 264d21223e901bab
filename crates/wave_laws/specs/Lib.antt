pub mod Waves
pub mod WaveLaws
pub mod WaveExamples

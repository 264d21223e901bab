pub mod SpelledSources

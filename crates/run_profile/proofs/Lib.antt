mod TimeLemmas
mod PlatformLemmas
mod SettingsLemmas
mod PathLemmas
mod LevelsLemmas
mod ScriptOrderLemmas

mod Lists
mod StepLemmas
mod Forward
mod Backward
mod Sound
mod ReadLemmas

mod GrowthLemmas
mod NestingLemmas

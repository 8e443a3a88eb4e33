mod DirectoryLemmas
mod OriginLemmas
mod ReachLemmas
mod RateLemmas

mod LineLemmas
mod FeedLemmas
mod SeenLemmas
mod EventLemmas
mod TextLemmas
mod CallLemmas

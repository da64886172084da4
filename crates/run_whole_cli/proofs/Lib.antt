mod LeftLemmas
mod EndLemmas
mod ThirdLemmas
mod AnswerLemmas
mod HearsLemmas

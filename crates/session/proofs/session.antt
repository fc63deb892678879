-- From calls on a session's tables to calls on the session.
pub mod TermMade
pub mod TextMade
pub mod StepMade
pub mod PointMade
pub mod BackMade

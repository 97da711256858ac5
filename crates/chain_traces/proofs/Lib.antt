mod DeadlineOutputLaws
mod LateLaws

-- `told_of`: variant by variant: kind and values unfold to the numbers that the code gives. Assumes nothing.
use Rattle.spec.specs.Host.{told_of}
use Rattle.spec.specs.Answers.{kind, values}
use mathlib.Core.Path.{sym, ap, ◌∙◌}
use Rattle.api_answers.proofs.told_of.Goals as goal

pub returns-in-Refused : goal.returns-in-Refused
unfolding kind values
returns-in-Refused c = c.number.ensures ∙ ap told_of (sym c.in-Refused.is)

pub returns-in-BadZone : goal.returns-in-BadZone
unfolding kind values
returns-in-BadZone c = ap told_of (sym c.in-BadZone.is)

pub returns-in-Cut : goal.returns-in-Cut
unfolding kind values
returns-in-Cut c = c.number-in-Cut.ensures ∙ ap told_of (sym c.in-Cut.is)

pub returns-in-Sent : goal.returns-in-Sent
unfolding kind values
returns-in-Sent c = ap told_of (sym c.in-Sent.is)

pub returns-in-Landed : goal.returns-in-Landed
unfolding kind values
returns-in-Landed c = c.number-in-Landed.ensures ∙ ap told_of (sym c.in-Landed.is)

pub returns-in-Closed : goal.returns-in-Closed
unfolding kind values
returns-in-Closed c = c.number-in-Closed.ensures ∙ ap told_of (sym c.in-Closed.is)

pub returns-in-Copied : goal.returns-in-Copied
unfolding kind values
returns-in-Copied c = ap told_of (sym c.in-Copied.is)

pub returns-in-Reset : goal.returns-in-Reset
unfolding kind values
returns-in-Reset c = c.number-in-Reset.ensures ∙ ap told_of (sym c.in-Reset.is)

pub returns-in-Part : goal.returns-in-Part
unfolding kind values
returns-in-Part c = ap told_of (sym c.in-Part.is)

pub returns-in-Never : goal.returns-in-Never
unfolding kind values
returns-in-Never c = c.number-in-Never.ensures ∙ ap told_of (sym c.in-Never.is)

pub returns-in-Lost : goal.returns-in-Lost
unfolding kind values
returns-in-Lost c = c.number-in-Lost.ensures ∙ ap told_of (sym c.in-Lost.is)

pub returns-in-Filled : goal.returns-in-Filled
unfolding kind values
returns-in-Filled c = c.number-in-Filled.ensures ∙ ap told_of (sym c.in-Filled.is)

pub returns-in-Restarted : goal.returns-in-Restarted
unfolding kind values
returns-in-Restarted c = c.number-in-Restarted.ensures ∙ ap told_of (sym c.in-Restarted.is)

pub returns-in-Rebuilt : goal.returns-in-Rebuilt
unfolding kind values
returns-in-Rebuilt c = c.number-in-Rebuilt.ensures ∙ ap told_of (sym c.in-Rebuilt.is)

pub returns-in-Nothing : goal.returns-in-Nothing
unfolding kind values
returns-in-Nothing c = c.number-in-Nothing.ensures ∙ ap told_of (sym c.in-Nothing.is)

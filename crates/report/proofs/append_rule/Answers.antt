-- append_rule: owes the name of a kind: one call for each of the ten, and the last is none of the nine before it.
use mathlib.Core.Path.{◌≡◌}
use mathlib.Core.Path.{ap}
use native.Mathlib.Omega.{arith}
use Rattle.calculus.specs.Terms.{rule_text}
use Rattle.heads.specs.Heads.{rule_named}
use Rattle.report.specs.Lines.{step_name, name_of}
use Rattle.report.proofs.Writing.{wrote_as}
use Rattle.report.proofs.append_rule.Goals as goal

pub returns-in-0 : goal.returns-in-0
unfolding name_of step_name rule_text rule_named
returns-in-0 c = record {
  wrote = wrote_as (ap name_of c.in-0.is) c.append.ensures;
  upper_bound = omega arith;
}

pub returns-in-1 : goal.returns-in-1
unfolding name_of step_name rule_text rule_named
returns-in-1 c = record {
  wrote = wrote_as (ap name_of c.in-1.is) c.append-in-1.ensures;
  upper_bound = omega arith;
}

pub returns-in-2 : goal.returns-in-2
unfolding name_of step_name rule_text rule_named
returns-in-2 c = record {
  wrote = wrote_as (ap name_of c.in-2.is) c.append-in-2.ensures;
  upper_bound = omega arith;
}

pub returns-in-3 : goal.returns-in-3
unfolding name_of step_name rule_text rule_named
returns-in-3 c = record {
  wrote = wrote_as (ap name_of c.in-3.is) c.append-in-3.ensures;
  upper_bound = omega arith;
}

pub returns-in-4 : goal.returns-in-4
unfolding name_of step_name rule_text rule_named
returns-in-4 c = record {
  wrote = wrote_as (ap name_of c.in-4.is) c.append-in-4.ensures;
  upper_bound = omega arith;
}

pub returns-in-5 : goal.returns-in-5
unfolding name_of step_name rule_text rule_named
returns-in-5 c = record {
  wrote = wrote_as (ap name_of c.in-5.is) c.append-in-5.ensures;
  upper_bound = omega arith;
}

pub returns-in-6 : goal.returns-in-6
unfolding name_of step_name rule_text rule_named
returns-in-6 c = record {
  wrote = wrote_as (ap name_of c.in-6.is) c.append-in-6.ensures;
  upper_bound = omega arith;
}

pub returns-in-7 : goal.returns-in-7
unfolding name_of step_name rule_text rule_named
returns-in-7 c = record {
  wrote = wrote_as (ap name_of c.in-7.is) c.append-in-7.ensures;
  upper_bound = omega arith;
}

pub returns-in-8 : goal.returns-in-8
unfolding name_of step_name rule_text rule_named
returns-in-8 c = record {
  wrote = wrote_as (ap name_of c.in-8.is) c.append-in-8.ensures;
  upper_bound = omega arith;
}

pub returns-in_default : goal.returns-in_default
unfolding name_of step_name rule_text rule_named
returns-in_default c = record {
  wrote = wrote_as (ap name_of (let nine : c.args.kind ≡ 9 = omega (arith, c.requires.kind_le_pol_kind) in nine)) c.append-in_default.ensures;
  upper_bound = omega (arith, c.append-in_default.ensures.next);
}

use Rattle.eqc_compare.proofs.OutcomeLaws.{vacuous_outcome, compared_outcome}
use Rattle.eqc_parallel.proofs.members.compare_by_members.Goals as goal

pub returns-then-branch : goal.returns-then-branch
returns-then-branch g c = record {
  found = vacuous_outcome c.args.pair.now c.args.request.every
      c.in_ok-first_allows_none.field-0 c.in_ok-first_allows_none.ensures.none c.if-branch.true;
}

pub returns : goal.returns
returns g c =
    record {
      found =
          compared_outcome c.args.pair.now c.args.request.every c.in_ok-first_allows_none.field-0
          c.in_ok-found.found c.in_ok-first_allows_none.ensures.none c.if-branch.false
          c.in_ok-found.ensures.found;
    }

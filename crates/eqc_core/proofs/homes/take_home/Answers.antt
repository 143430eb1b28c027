use Rattle.std.proofs.Common.{set, map, ap, ◌∙◌}
use Rattle.std.proofs.lemmas.List.{map-set}
use Rattle.eqc_core.specs.Machine.{home_of}
use Rattle.eqc_core.proofs.homes.take_home.Goals as goal

pub returns-in-Some-clause-homes : goal.returns-in-Some-clause-homes
returns-in-Some-clause-homes c =
    let hs = c.args.homes.now.items in
    map-set home_of hs c.args.i c.replace.new.dest
    ∙ ap (λ h. set (map home_of hs) c.args.i (home_of h)) c.replace.ensures.after

pub returns-in-None-clause-homes : goal.returns-in-None-clause-homes
returns-in-None-clause-homes c =
    let hs = c.args.homes.now.items in
    map-set home_of hs c.args.i c.replace.new.dest
    ∙ ap (λ h. set (map home_of hs) c.args.i (home_of h)) c.replace.ensures.after

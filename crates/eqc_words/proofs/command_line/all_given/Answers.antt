use Rattle.std.proofs.Common.{◌∙◌, ap, map, Some, None}
use Rattle.std.proofs.lemmas.Result.{IfOk-weaker}
use Rattle.clap.specs.Matches.{found_of}
use Rattle.eqc_words.proofs.WordLemmas.{all_read}
use Rattle.eqc_words.proofs.command_line.all_given.Goals as goal

pub returns-in-Some : goal.returns-in-Some
returns-in-Some c =
    let read = all_read (found_of c.args.matches.now) c.args.name.now
    (Some (map (λ v. v.now) c.in-Some.given.now)) c.in-Some.ensures in
    IfOk-weaker c.bytes_of_all.result _ _ (λ all is. is ∙ read) c.bytes_of_all.ensures

pub returns-in-None : goal.returns-in-None
returns-in-None c = ap (map (λ s. s.now)) c.new.ensures.items
    ∙ all_read (found_of c.args.matches.now) c.args.name.now None c.in-None.ensures

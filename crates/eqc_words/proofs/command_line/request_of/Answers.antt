use Rattle.std.proofs.Common.{◌∙◌, codes}
use Rattle.clap.specs.Matches.{found_of}
use Rattle.clap.proofs.WalkLemmas.{first_value-rows}
use Rattle.eqc_words.proofs.WordLemmas.{flag_read}
use Rattle.eqc_words.proofs.command_line.request_of.Goals as goal

pub returns : goal.returns
returns c = record {
  workers = c.in_ok-number_given.ensures;
  nodes = c.in_ok-number_given-2.ensures;
  cells = c.in_ok-number_given-3.ensures;
  forks = c.in_ok-number_given-4.ensures;
  conflicts = c.in_ok-number_given-5.ensures;
  inputs = c.in_ok-number_given-6.ensures;
  bytes = c.in_ok-number_given-7.ensures;
  explain = flag_read (found_of c.args.matches.now) (codes "explain") c.get_flag-2.result
      c.get_flag-2.ensures.none c.get_flag-2.ensures.value c.get_flag-2.ensures.other;
  locate = flag_read (found_of c.args.matches.now) (codes "locate") c.get_flag-3.result
      c.get_flag-3.ensures.none c.get_flag-3.ensures.value c.get_flag-3.ensures.other;
  progress = flag_read (found_of c.args.matches.now) (codes "progress") c.get_flag-4.result
      c.get_flag-4.ensures.none c.get_flag-4.ensures.value c.get_flag-4.ensures.other;
  every = flag_read (found_of c.args.matches.now) (codes "all") c.get_flag.result
      c.get_flag.ensures.none c.get_flag.ensures.value c.get_flag.ensures.other;
  order = c.get_str.ensures ∙ first_value-rows (found_of c.args.matches.now) (codes "order");
  assume = c.get_str-2.ensures ∙ first_value-rows (found_of c.args.matches.now) (codes "assume");
  outputs = c.requires;
  first_model = c.get_str-3.ensures ∙ first_value-rows (found_of c.args.matches.now)
      (codes "first-model");
  second_model = c.get_str-4.ensures ∙ first_value-rows (found_of c.args.matches.now)
      (codes "second-model");
  first = c.get_str-5.ensures ∙ first_value-rows (found_of c.args.matches.now) (codes "first");
  second = c.get_str-6.ensures ∙ first_value-rows (found_of c.args.matches.now) (codes "second");
}

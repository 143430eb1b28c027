use Rattle.eqc_datapath.proofs.adding.show_words.Goals as goal

pub loop-k-preserved : goal.loop-k-preserved
loop-k-preserved g c = record {
  inside = c.show_word.ensures.inside;
  known = c.show_word.ensures.known;
  kept = λ o inside marked. c.show_word.ensures.kept o inside (c.loop-k.invariant.kept o inside
      marked);
}

-- What a call that takes no memory leaves as it was.
use Rattle.std.specs.Prelude.{◌≡◌, vec_capacity}
use Rattle.eqc_plain.specs.declared.plain.Plain.{Plain}

-- only counts have changed, in the room that they had
pub record OnlyRecounts (old new : Plain) : Type 0 where
  pub nodes : new.store.nodes ≡ old.store.nodes
  pub limit : new.store.limit ≡ old.store.limit
  pub counts : vec_capacity new.store.counts ≡ vec_capacity old.store.counts
  pub cache : new.cache ≡ old.cache
  pub tasks : new.tasks ≡ old.tasks
  pub turns : new.turns ≡ old.turns

-- Pairs of literals that were asked about.
use Rattle.std.proofs.Common.{◌≡◌, ℕ, ◌<◌, List, [], ◌∷◌, ◌++◌, length, get_or, sym, All}
use Rattle.std.proofs.lemmas.List.Elements.{All-push}
use Rattle.eqc_sweep.specs.Team.{IsAsked}
use Rattle.eqc_sweep.specs.declared.finder.twins.Twins.{Twins}

-- one more of these pairs is found equal
pub asked_more : (pairs : List Twins) (k : ℕ) (pair found : Twins) (old : List Twins)
    → k < length pairs → pair ≡ get_or pairs k pair → found.place ≡ pair.place → found.x ≡ pair.x →
    found.y ≡ pair.y → All (IsAsked pairs) old → All (IsAsked pairs) (old ++ found ∷ [])
asked_more pairs k pair found old inside at place first second are =
    All-push (IsAsked pairs) old found are (record {
      pair = pair;
      among = (k, inside, sym at);
      place = place;
      first = first;
      second = second;
    })

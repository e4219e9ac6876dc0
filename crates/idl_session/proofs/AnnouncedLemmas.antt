-- Lines that are gathered.
use Rattle.std.proofs.Common.{◌≡◌, ◌+◌, ◌∷◌, ◌++◌, ◌∙◌, ℕ, List, [], Option, refl, arith, length-append}
use Rattle.idl_session.proofs.StreamLemmas.{lines-none, lines-more}
use Rattle.idl_session.specs.declared.announced.Announced.{Announced}
use Rattle.idl_session.specs.Lines.{line_within}
use Rattle.idl_session.specs.Streams.{Stream, TakesLine}
use Rattle.idl_session.specs.replies.Announced.{IsGathered, Gathers, IsGathering}

pub gathering-none : (count : ℕ) (left : Stream) (gathered : Announced) → IsGathered count [] gathered → IsGathering count 0 left left gathered
gathering-none count left gathered is = record { lines = []; taken = lines-none left; many = refl; is = is }

-- of the line that was taken this was kept, and gathered
pub gathers-kept : (mid new : Stream) (held o : Option (List ℕ)) (before after : Announced) → TakesLine 4096 mid new held → o ≡ held
    → ((k : ℕ) (lines : List (List ℕ)) (next : List ℕ) → o ≡ line_within 4096 next → IsGathered k lines before → IsGathered k (lines ++ next ∷ []) after)
    → Gathers mid new before after
gathers-kept mid new held o before after took same more = record {
  line = took.0;
  taken = took.1;
  gathered = λ k lines is. more k lines took.0 (same ∙ took.2) is;
}

pub gathering-more : (count i : ℕ) (old mid new : Stream) (gathered after : Announced) → IsGathering count i old mid gathered → Gathers mid new gathered after → IsGathering count (i + 1) old new after
gathering-more count i old mid new gathered after g took = record {
  lines = g.lines ++ took.line ∷ [];
  taken = lines-more old mid new g.lines (took.line ∷ []) g.taken took.taken;
  many = omega (arith, length-append g.lines (took.line ∷ []), g.many);
  is = took.gathered count g.lines g.is;
}

use Rattle.std.proofs.Common.{◌≡◌, ◌<◌, ◌+◌, ℕ, Bool, true, false, cond, [], is_ok, slice_index, sym, ap, subst, ◌∙◌, arith, vec_len}
use Rattle.idl_map.proofs.buckets.Buckets.extend.Goals as goal

within_both : (b : Bool) (n m count number : ℕ) → count ≡ cond b n m → number < n → number < m → number < count
within_both true n m count number is low high = omega arith
within_both false n m count number is low high = omega arith

pub returns-clause-kept : goal.returns-clause-kept
returns-clause-kept c =
    let old = c.args.self.now in
    let tags = c.resize.new.self in
    let places = c.resize-2.new.self in
    record {
      stands = λ number slot tag place some at.
          let low : number < vec_len old.tags = omega (arith, at.among_tags, old.tags.ok.0) in
          let high : number < vec_len old.places = omega (arith, at.among_places, old.places.ok.0) in
          let all : number < c.len.result + c.args.count = omega (arith, c.len.ensures, at.among_tags) in
          let tags_len : number < vec_len tags = within_both (is_ok c.resize.result) (c.len.result + c.args.count) (vec_len old.tags) (vec_len tags) number c.resize.ensures.len all low in
          let places_len : number < vec_len places = within_both (is_ok c.resize-2.result) (c.len.result + c.args.count) (vec_len old.places) (vec_len places) number c.resize-2.ensures.len all high in
          record {
            among_tags = omega (arith, tags_len, tags.ok.0);
            among_places = omega (arith, places_len, places.ok.0);
            below = at.below;
            tagged = ap (λ ts. slice_index ts slot) (c.resize.ensures.by_index.0 number [] all low) ∙ at.tagged;
            placed = ap (λ ps. slice_index ps slot) (c.resize-2.ensures.by_index.0 number [] all high) ∙ at.placed;
          };
      full = λ number full.
          let low : number < vec_len old.tags = omega (arith, full.0, old.tags.ok.0) in
          let all : number < c.len.result + c.args.count = omega (arith, c.len.ensures, full.0) in
          let tags_len : number < vec_len tags = within_both (is_ok c.resize.result) (c.len.result + c.args.count) (vec_len old.tags) (vec_len tags) number c.resize.ensures.len all low in (
            omega (arith, tags_len, tags.ok.0),
            subst (λ (t : ℕ). 0 < t) (sym (ap (λ ts. slice_index ts 15) (c.resize.ensures.by_index.0 number [] all low))) full.1,
          );
      there = λ number there.
          let low : number < vec_len old.tags = omega (arith, there.0, old.tags.ok.0) in
          let high : number < vec_len old.places = omega (arith, there.1, old.places.ok.0) in
          let all : number < c.len.result + c.args.count = omega (arith, c.len.ensures, there.0) in
          let tags_len : number < vec_len tags = within_both (is_ok c.resize.result) (c.len.result + c.args.count) (vec_len old.tags) (vec_len tags) number c.resize.ensures.len all low in
          let places_len : number < vec_len places = within_both (is_ok c.resize-2.result) (c.len.result + c.args.count) (vec_len old.places) (vec_len places) number c.resize-2.ensures.len all high in
          (omega (arith, tags_len, tags.ok.0), omega (arith, places_len, places.ok.0));
    }

use Rattle.std.proofs.Common.{◌≡◌, ◌∙◌, ◌≤◌, ◌-◌, ap, arith, drop, get_or, length, length-drop}
use Rattle.std.proofs.lemmas.List.{length-map, length-take-le}
use Rattle.idl_text.specs.Moved.{moved_token}
use Rattle.idl_text.proofs.TextLemmas.{IsTextFirst-end, parted-here}
use Rattle.idl_text.proofs.WalkLemmas.{IsHere-some}
use Rattle.idl_text.proofs.tokens.tokens_left.TokensLeft.first_part.Goals as goal

pub overflow_cast-placed : goal.overflow_cast-placed
overflow_cast-placed c =
    let it = c.self.inside in
    let chunks = it.chunks.now in
    let b = get_or chunks it.chunk c.index-self-self.result in
    let at = IsHere-some chunks it.chunk it.place it.before c.index-self-self.result c.args.self.now c.self.invariant.0 c.self.invariant.1 c.self.view_is c.requires.left in
    omega (arith, at.lines_before)

pub new-here-requires-clause-lines : goal.new-here-requires-clause-lines
new-here-requires-clause-lines c =
    let it = c.self.inside in
    let chunks = it.chunks.now in
    let b = get_or chunks it.chunk c.index-self-self.result in
    let at = IsHere-some chunks it.chunk it.place it.before c.index-self-self.result c.args.self.now c.self.invariant.0 c.self.invariant.1 c.self.view_is c.requires.left in
    at.lines_before

pub new-here-requires-clause-numbers : goal.new-here-requires-clause-numbers
new-here-requires-clause-numbers c =
    let it = c.self.inside in
    let chunks = it.chunks.now in
    let b = get_or chunks it.chunk c.index-self-self.result in
    let at = IsHere-some chunks it.chunk it.place it.before c.index-self-self.result c.args.self.now c.self.invariant.0 c.self.invariant.1 c.self.view_is c.requires.left in
    at.numbers

pub overflow_add-self-inside : goal.overflow_add-self-inside
overflow_add-self-inside c =
    let it = c.self.inside in
    let chunks = it.chunks.now in
    let b = get_or chunks it.chunk c.index-self-self.result in
    let at = IsHere-some chunks it.chunk it.place it.before c.index-self-self.result c.args.self.now c.self.invariant.0 c.self.invariant.1 c.self.view_is c.requires.left in
    let within : c.min-count.result ≤ length c.new-here.result = omega (arith, c.min-count.ensures, c.len.ensures) in
    omega (arith, at.countable, c.self.invariant.1.is, IsTextFirst-end chunks it.chunk it.place it.before b c.min-count.result c.new-here.result at c.new-here.ensures within)

pub overflow_add-self-inside-2 : goal.overflow_add-self-inside-2
overflow_add-self-inside-2 c =
    let it = c.self.inside in
    let chunks = it.chunks.now in
    let b = get_or chunks it.chunk c.index-self-self.result in
    let at = IsHere-some chunks it.chunk it.place it.before c.index-self-self.result c.args.self.now c.self.invariant.0 c.self.invariant.1 c.self.view_is c.requires.left in
    let within : c.min-count.result ≤ length c.new-here.result = omega (arith, c.min-count.ensures, c.len.ensures) in
    omega (arith, at.countable, IsTextFirst-end chunks it.chunk it.place it.before b c.min-count.result c.new-here.result at c.new-here.ensures within)

pub new-rest-requires-clause-within : goal.new-rest-requires-clause-within
new-rest-requires-clause-within c =
    let it = c.self.inside in
    let chunks = it.chunks.now in
    let b = get_or chunks it.chunk c.index-self-self.result in
    let at = IsHere-some chunks it.chunk it.place it.before c.index-self-self.result c.args.self.now c.self.invariant.0 c.self.invariant.1 c.self.view_is c.requires.left in
    let within : c.min-count.result ≤ length c.new-here.result = omega (arith, c.min-count.ensures, c.len.ensures) in
    IsTextFirst-end chunks it.chunk it.place it.before b c.min-count.result c.new-here.result at c.new-here.ensures within

pub returns-clause-all : goal.returns-clause-all
returns-clause-all c =
    let it = c.self.inside in
    let chunks = it.chunks.now in
    let b = get_or chunks it.chunk c.index-self-self.result in
    let at = IsHere-some chunks it.chunk it.place it.before c.index-self-self.result c.args.self.now c.self.invariant.0 c.self.invariant.1 c.self.view_is c.requires.left in
    let within : c.min-count.result ≤ length c.new-here.result = omega (arith, c.min-count.ensures, c.len.ensures) in
    parted-here chunks it.chunk it.place it.before b c.min-count.result c.args.self.now c.new-here.result c.split_at-part.result.0 c.new-rest.result at c.new-here.ensures within c.self.view_is c.split_at-part.ensures.front c.new-rest.ensures

pub returns-clause-some : goal.returns-clause-some
returns-clause-some c =
    let it = c.self.inside in
    let chunks = it.chunks.now in
    let b = get_or chunks it.chunk c.index-self-self.result in
    let at = IsHere-some chunks it.chunk it.place it.before c.index-self-self.result c.args.self.now c.self.invariant.0 c.self.invariant.1 c.self.view_is c.requires.left in
    let within : c.min-count.result ≤ length c.new-here.result = omega (arith, c.min-count.ensures, c.len.ensures) in
    let tokens = b.chunk.value.tokens in
    let here : length c.new-here.result ≡ length tokens - it.place =
    ap length c.new-here.ensures ∙ length-map (drop it.place tokens) (moved_token b.lines_before) ∙ length-drop it.place tokens in
    omega (
      arith,
      here,
      at.within,
      c.requires.most,
      c.len.ensures,
      c.min-count.ensures,
      ap length c.split_at-part.ensures.front,
      length-take-le c.min-count.result c.new-here.result within,
    )

pub returns-clause-few : goal.returns-clause-few
returns-clause-few c =
    let within : c.min-count.result ≤ length c.new-here.result = omega (arith, c.min-count.ensures, c.len.ensures) in
    omega (arith, c.min-count.ensures, ap length c.split_at-part.ensures.front, length-take-le c.min-count.result c.new-here.result within)

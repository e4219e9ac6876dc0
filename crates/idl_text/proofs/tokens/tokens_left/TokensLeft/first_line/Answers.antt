use Rattle.std.proofs.Common.{◌≡◌, ap, arith, drop, get_or, length, length-drop}
use Rattle.std.proofs.lemmas.List.{length-map}
use Rattle.idl_text.specs.Moved.{moved_token, moved_tokens}
use Rattle.idl_text.proofs.WalkLemmas.{IsFirstLine-here, IsHere-some, IsParted-first}
use Rattle.idl_text.proofs.tokens.tokens_left.TokensLeft.first_line.Goals as goal

pub overflow_cast-placed : goal.overflow_cast-placed
overflow_cast-placed c =
    let it = c.self.inside in
    let chunks = it.chunks.now in
    let b = get_or chunks it.chunk c.index-self-self.result in
    let at = IsHere-some chunks it.chunk it.place it.before c.index-self-self.result c.args.self.now c.self.invariant.0 c.self.invariant.1 c.self.view_is c.requires in
    omega (arith, at.lines_before)

pub new-here-requires-clause-lines : goal.new-here-requires-clause-lines
new-here-requires-clause-lines c =
    let it = c.self.inside in
    let chunks = it.chunks.now in
    let b = get_or chunks it.chunk c.index-self-self.result in
    let at = IsHere-some chunks it.chunk it.place it.before c.index-self-self.result c.args.self.now c.self.invariant.0 c.self.invariant.1 c.self.view_is c.requires in
    at.lines_before

pub new-here-requires-clause-numbers : goal.new-here-requires-clause-numbers
new-here-requires-clause-numbers c =
    let it = c.self.inside in
    let chunks = it.chunks.now in
    let b = get_or chunks it.chunk c.index-self-self.result in
    let at = IsHere-some chunks it.chunk it.place it.before c.index-self-self.result c.args.self.now c.self.invariant.0 c.self.invariant.1 c.self.view_is c.requires in
    at.numbers

pub first_line_len-count-requires : goal.first_line_len-count-requires
first_line_len-count-requires c =
    let it = c.self.inside in
    let chunks = it.chunks.now in
    let b = get_or chunks it.chunk c.index-self-self.result in
    let at = IsHere-some chunks it.chunk it.place it.before c.index-self-self.result c.args.self.now c.self.invariant.0 c.self.invariant.1 c.self.view_is c.requires in
    let tokens = b.chunk.value.tokens in
    omega (arith, at.within, ap length c.new-here.ensures, length-map (drop it.place tokens) (moved_token b.lines_before), length-drop it.place tokens)

pub overflow_add-self-inside : goal.overflow_add-self-inside
overflow_add-self-inside c =
    let it = c.self.inside in
    let chunks = it.chunks.now in
    let b = get_or chunks it.chunk c.index-self-self.result in
    let at = IsHere-some chunks it.chunk it.place it.before c.index-self-self.result c.args.self.now c.self.invariant.0 c.self.invariant.1 c.self.view_is c.requires in
    let first = IsFirstLine-here chunks it.chunk it.place it.before b c.new-here.result c.first_line_len-count.result at c.new-here.ensures c.first_line_len-count.ensures.len in
    omega (arith, first.end, at.countable, c.self.invariant.1.is)

pub overflow_add-self-inside-2 : goal.overflow_add-self-inside-2
overflow_add-self-inside-2 c =
    let it = c.self.inside in
    let chunks = it.chunks.now in
    let b = get_or chunks it.chunk c.index-self-self.result in
    let at = IsHere-some chunks it.chunk it.place it.before c.index-self-self.result c.args.self.now c.self.invariant.0 c.self.invariant.1 c.self.view_is c.requires in
    let count = c.first_line_len-count.result in
    let there : c.new-here.result ≡ moved_tokens b.lines_before (drop it.place b.chunk.value.tokens) = c.new-here.ensures in
    let first = IsFirstLine-here chunks it.chunk it.place it.before b c.new-here.result count at there c.first_line_len-count.ensures.len in
    omega (arith, first.end, at.countable)

pub new-rest-requires-clause-within : goal.new-rest-requires-clause-within
new-rest-requires-clause-within c =
    let it = c.self.inside in
    let chunks = it.chunks.now in
    let b = get_or chunks it.chunk c.index-self-self.result in
    let at = IsHere-some chunks it.chunk it.place it.before c.index-self-self.result c.args.self.now c.self.invariant.0 c.self.invariant.1 c.self.view_is c.requires in
    let count = c.first_line_len-count.result in
    let there : c.new-here.result ≡ moved_tokens b.lines_before (drop it.place b.chunk.value.tokens) = c.new-here.ensures in
    let first = IsFirstLine-here chunks it.chunk it.place it.before b c.new-here.result count at there c.first_line_len-count.ensures.len in
    first.end

pub returns-clause-lines : goal.returns-clause-lines
returns-clause-lines c =
    let it = c.self.inside in
    let chunks = it.chunks.now in
    let b = get_or chunks it.chunk c.index-self-self.result in
    let at = IsHere-some chunks it.chunk it.place it.before c.index-self-self.result c.args.self.now c.self.invariant.0 c.self.invariant.1 c.self.view_is c.requires in
    let count = c.first_line_len-count.result in
    let there : c.new-here.result ≡ moved_tokens b.lines_before (drop it.place b.chunk.value.tokens) = c.new-here.ensures in
    let first = IsFirstLine-here chunks it.chunk it.place it.before b c.new-here.result count at there c.first_line_len-count.ensures.len in
    (IsParted-first chunks it.before it.place b count c.args.self.now c.new-here.result c.split_at-line.result.0 c.new-rest.result first c.self.view_is c.requires there c.split_at-line.ensures.front c.new-rest.ensures).lines

pub returns-clause-all : goal.returns-clause-all
returns-clause-all c =
    let it = c.self.inside in
    let chunks = it.chunks.now in
    let b = get_or chunks it.chunk c.index-self-self.result in
    let at = IsHere-some chunks it.chunk it.place it.before c.index-self-self.result c.args.self.now c.self.invariant.0 c.self.invariant.1 c.self.view_is c.requires in
    let count = c.first_line_len-count.result in
    let there : c.new-here.result ≡ moved_tokens b.lines_before (drop it.place b.chunk.value.tokens) = c.new-here.ensures in
    let first = IsFirstLine-here chunks it.chunk it.place it.before b c.new-here.result count at there c.first_line_len-count.ensures.len in
    (IsParted-first chunks it.before it.place b count c.args.self.now c.new-here.result c.split_at-line.result.0 c.new-rest.result first c.self.view_is c.requires there c.split_at-line.ensures.front c.new-rest.ensures).all

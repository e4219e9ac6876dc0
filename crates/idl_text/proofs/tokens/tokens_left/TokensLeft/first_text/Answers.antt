use Rattle.std.proofs.Common.{arith, get_or, subst, sym}
use Rattle.std.specs.List.{All}
use Rattle.idl_lex.specs.tokens.Tokens.{lines_of}
use Rattle.idl_text.proofs.TextLemmas.{IsText, IsTextFirst-end, IsTextFirst-here}
use Rattle.idl_text.proofs.WalkLemmas.{IsHere-some}
use Rattle.idl_text.proofs.tokens.tokens_left.TokensLeft.first_text.Goals as goal

pub overflow_cast-placed : goal.overflow_cast-placed
overflow_cast-placed c =
    let it = c.self.inside in
    let chunks = it.chunks.now in
    let b = get_or chunks it.chunk c.index-self-self.result in
    let at = IsHere-some chunks it.chunk it.place it.before c.index-self-self.result c.args.self.now c.self.invariant.0 c.self.invariant.1 c.self.view_is c.requires in
    omega (arith, at.lines_before)

pub new-here-requires-clause-lines : goal.new-here-requires-clause-lines
new-here-requires-clause-lines c =
    let it = c.self.inside in
    let chunks = it.chunks.now in
    let b = get_or chunks it.chunk c.index-self-self.result in
    let at = IsHere-some chunks it.chunk it.place it.before c.index-self-self.result c.args.self.now c.self.invariant.0 c.self.invariant.1 c.self.view_is c.requires in
    at.lines_before

pub new-here-requires-clause-numbers : goal.new-here-requires-clause-numbers
new-here-requires-clause-numbers c =
    let it = c.self.inside in
    let chunks = it.chunks.now in
    let b = get_or chunks it.chunk c.index-self-self.result in
    let at = IsHere-some chunks it.chunk it.place it.before c.index-self-self.result c.args.self.now c.self.invariant.0 c.self.invariant.1 c.self.view_is c.requires in
    at.numbers

pub overflow_add-self-inside : goal.overflow_add-self-inside
overflow_add-self-inside c =
    let it = c.self.inside in
    let chunks = it.chunks.now in
    let b = get_or chunks it.chunk c.index-self-self.result in
    let at = IsHere-some chunks it.chunk it.place it.before c.index-self-self.result c.args.self.now c.self.invariant.0 c.self.invariant.1 c.self.view_is c.requires in
    omega (arith, at.countable, c.self.invariant.1.is, IsTextFirst-end chunks it.chunk it.place it.before b c.text_len-count.result c.new-here.result at c.new-here.ensures c.text_len-count.ensures.within)

pub overflow_add-self-inside-2 : goal.overflow_add-self-inside-2
overflow_add-self-inside-2 c =
    let it = c.self.inside in
    let chunks = it.chunks.now in
    let b = get_or chunks it.chunk c.index-self-self.result in
    let at = IsHere-some chunks it.chunk it.place it.before c.index-self-self.result c.args.self.now c.self.invariant.0 c.self.invariant.1 c.self.view_is c.requires in
    omega (arith, at.countable, IsTextFirst-end chunks it.chunk it.place it.before b c.text_len-count.result c.new-here.result at c.new-here.ensures c.text_len-count.ensures.within)

pub new-rest-requires-clause-within : goal.new-rest-requires-clause-within
new-rest-requires-clause-within c =
    let it = c.self.inside in
    let chunks = it.chunks.now in
    let b = get_or chunks it.chunk c.index-self-self.result in
    let at = IsHere-some chunks it.chunk it.place it.before c.index-self-self.result c.args.self.now c.self.invariant.0 c.self.invariant.1 c.self.view_is c.requires in
    IsTextFirst-end chunks it.chunk it.place it.before b c.text_len-count.result c.new-here.result at c.new-here.ensures c.text_len-count.ensures.within

pub returns-clause-lines : goal.returns-clause-lines
returns-clause-lines c =
    let it = c.self.inside in
    let chunks = it.chunks.now in
    let b = get_or chunks it.chunk c.index-self-self.result in
    let at = IsHere-some chunks it.chunk it.place it.before c.index-self-self.result c.args.self.now c.self.invariant.0 c.self.invariant.1 c.self.view_is c.requires in
    (IsTextFirst-here chunks it.chunk it.place it.before b c.text_len-count.result c.args.self.now c.new-here.result c.split_at-text.result.0 c.new-rest.result at c.new-here.ensures c.text_len-count.ensures.within c.text_len-count.ensures.begins c.self.view_is c.split_at-text.ensures.front c.new-rest.ensures).lines

pub returns-clause-all : goal.returns-clause-all
returns-clause-all c =
    let it = c.self.inside in
    let chunks = it.chunks.now in
    let b = get_or chunks it.chunk c.index-self-self.result in
    let at = IsHere-some chunks it.chunk it.place it.before c.index-self-self.result c.args.self.now c.self.invariant.0 c.self.invariant.1 c.self.view_is c.requires in
    (IsTextFirst-here chunks it.chunk it.place it.before b c.text_len-count.result c.args.self.now c.new-here.result c.split_at-text.result.0 c.new-rest.result at c.new-here.ensures c.text_len-count.ensures.within c.text_len-count.ensures.begins c.self.view_is c.split_at-text.ensures.front c.new-rest.ensures).all

pub returns-clause-begins : goal.returns-clause-begins
returns-clause-begins c =
    let it = c.self.inside in
    let chunks = it.chunks.now in
    let b = get_or chunks it.chunk c.index-self-self.result in
    let at = IsHere-some chunks it.chunk it.place it.before c.index-self-self.result c.args.self.now c.self.invariant.0 c.self.invariant.1 c.self.view_is c.requires in
    (IsTextFirst-here chunks it.chunk it.place it.before b c.text_len-count.result c.args.self.now c.new-here.result c.split_at-text.result.0 c.new-rest.result at c.new-here.ensures c.text_len-count.ensures.within c.text_len-count.ensures.begins c.self.view_is c.split_at-text.ensures.front c.new-rest.ensures).begins

pub returns-clause-text : goal.returns-clause-text
returns-clause-text c = subst (λ ts. All IsText (lines_of ts)) (sym c.split_at-text.ensures.front) c.text_len-count.ensures.text

use Rattle.linkfix.proofs.Imports.{arith, length, rules, words_of, ◌<◌, ◌∷◌, ◌≡◌}
use Rattle.linkfix.proofs.WordLemmas.{no_word_left, word_left}
use Rattle.linkfix.proofs.commands.WordsIterator.next.Goals as goal

pub returns-then-is_empty-clause-steps : goal.returns-then-is_empty-clause-steps
returns-then-is_empty-clause-steps c =
    let empty : length c.split_at.result.1.now ≡ 0 = search rules in
    let none = no_word_left c.args.self.now.rest.now c.split_at.result.1.now c.spaces_len.result c.spaces_len.ensures.value c.split_at.ensures.back empty in (none, none)

pub returns-clause-steps : goal.returns-clause-steps
returns-clause-steps c =
    let some : 0 < length c.split_at.result.1.now = search rules in
    word_left c.args.self.now.rest.now c.split_at.result.1.now c.spaces_len.result c.spaces_len.ensures.value c.split_at.ensures.back
    c.split_at-2.result.0.now c.split_at-2.result.1.now c.word_len.result some c.word_len.ensures.value c.split_at-2.ensures.front c.split_at-2.ensures.back

pub returns-clause-goes : goal.returns-clause-goes
returns-clause-goes c =
    let left : words_of c.args.self.now.rest.now ≡ c.split_at-2.result.0.now ∷ words_of c.split_at-2.result.1.now = returns-clause-steps c in
    record { on = λ _. (tt, tt, rw left (omega arith)); keeps = tt; rests = λ _. tt }

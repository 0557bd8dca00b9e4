-- Lists of deletions and deltas that are made one by one.
use Rattle.linker_utils_c.proofs.Imports.{IsNonDecreasingBy, IsNonDecreasingBy-from_default, List, [], ap, arith, get_or, get_or-map, length, length-map, map, pair_of, pair_of_key, pairs_in, take, take_more, ℕ, ◌++◌, ◌+◌, ◌<◌, ◌∙◌, ◌∷◌, ◌≡◌}
use Rattle.linker_rewriting.specs.declared.decisions.Deletion.{Deletion}
use Rattle.linker_utils_c.specs.declared.merges.Key.{Key}

-- what a read past the end gives
abbrev pub no_deletion : Deletion
no_deletion = record { offset = 0; bytes = 0 }

-- the pair at a place is that of the deletion there
pub pair_at : (deletions : List Deletion) (k : ℕ) → k < length deletions → get_or (pairs_in deletions) k (0, 0) ≡ pair_of (get_or deletions k no_deletion)
pair_at deletions k within = get_or-map pair_of deletions k no_deletion (0, 0) within

-- one more element, through a function
pub take_more_map : {A B : Type 0} (f : A → B) (xs : List A) (i : ℕ) (d : A) → i < length xs → take (i + 1) (map f xs) ≡ take i (map f xs) ++ f (get_or xs i d) ∷ []
take_more_map f xs i d within =
    let inside : i < length (map f xs) = omega (arith, length-map xs f) in
    take_more (map f xs) i (f d) inside ∙ ap (λ b. take i (map f xs) ++ b ∷ []) (get_or-map f xs i d (f d) within)

abbrev pub no_key : Key
no_key = record { bits = 0 }

-- by ascending keys the offsets ascend
pub keys_rise : (keys : List Key) → IsNonDecreasingBy (λ key. key.bits) keys → IsNonDecreasingBy (λ d. d.0) (map pair_of_key keys)
keys_rise keys rise = IsNonDecreasingBy-from_default (λ d. d.0) (map pair_of_key keys) (0, 0) (λ i j before within.
    let inside : j < length keys = omega (arith, length-map keys pair_of_key, within) in
    let low : i < length keys = omega (arith, before, inside) in
    let step = rise i j no_key before inside in
    rw (get_or-map pair_of_key keys i no_key (0, 0) low, get_or-map pair_of_key keys j no_key (0, 0) inside) (omega (arith, step)))

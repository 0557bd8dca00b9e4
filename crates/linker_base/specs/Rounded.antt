-- Forms that hold a rounded value: the bits of the value plus a constant stand at the places.
use Rattle.std.specs.Prelude.{ℕ, ◌+◌, ◌-◌, ◌%◌, ◌^◌, Bool, true, false, ◌&&◌, List, pos, ◌-ℤ◌}
use Rattle.std.specs.Prelude.{int_lt}
use Rattle.std.specs.Int.{Width}
use Rattle.linker_base.specs.Bits.{signed}
use Rattle.linker_base.specs.Form.{ImmediateBit, Form, place_sum, modulo}

-- Every value is written. The machine reads n bits in two's complement, those of the value plus r
-- from bit `low` up. `read_value` takes r off again, and flags a number that the machine reads
-- below 0 where `flags`.
abbrev pub rounded_immediate : Width → ℕ → ℕ → ℕ → Bool → List ImmediateBit → Form
rounded_immediate w n low r flags ps =
    record {
      window = w;
      width = λ _. 64;
      places = λ _. ps;
      number = λ _ v. v;
      base = λ _ x. x;
      opcode = λ _. false;
      reading = λ x. signed n (place_sum ps x) -ℤ pos r;
      flag = λ x. flags && int_lt (signed n (place_sum ps x)) (pos 0);
      restores = λ _. true;
      machine = λ x. signed n (place_sum ps x);
      wanted = λ _ _ v. pos (v + r - (v + r) % 2 ^ low);
      claim = modulo n;
    }

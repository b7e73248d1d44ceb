-- The answer to an instruction to be encoded, or put into the two banks, is that of the first broken check; where none is broken it is two bytes.
-- Assumes nothing.
use mathlib.Core.Path.{◌≡◌, refl, sym, ap, ◌∙◌}
use mathlib.Core.Bool.{Bool, true, false, cond, ◌||◌}
use mathlib.Core.List.{List, [], ◌∷◌}
use Prim.Native.Nat.{ℕ}
use native.Mathlib.Omega.{arith}
use Rattle.std.specs.Prelude.{Ok, Err}
use Rattle.slices.specs.Checks.{Check, check, first_broken, NoneBroken, FirstViolation}
use Rattle.slices.specs.Sizes.{bad_bank}
use Rattle.slices.proofs.Checks.{Numbered, none_broken, first_violation}
use Rattle.isa.specs.Encode.{bad_register, bad_function, encode_checks, Valid, put_checks, opcode_byte, argument_byte, Encoded, join_of, encode_of, number_of, Accepted, put_of, opcodes_after, arguments_after, Put}
use Rattle.isa.specs.Table.{row_of, opcode_in, argument_in}
use Rattle.isa.specs.declared.EncodeError.TheVariants.{BadBank, BadRegister, BadFunction}
use Rattle.isa.specs.declared.Instr.{Instr}
use Rattle.isa.specs.declared.Row.{Row}

-- a row with good letters is not refused
pub joins : (r : Row) → bad_register r ≡ false → bad_function (argument_in r) ≡ false
    → join_of r ≡ Ok (opcode_byte (opcode_in r), argument_byte (argument_in r))
unfolding join_of
joins r o f = rw (o, f)

-- ---- encoding

encode_number : (a b : Bool) (op arg : ℕ)
    → number_of (cond a (Err BadRegister) (cond b (Err BadFunction) (Ok (op, arg)))) ≡ first_broken (check 22 0 a ∷ check 23 0 b ∷ [])
unfolding first_broken
encode_number true b op arg = refl
encode_number false true op arg = refl
encode_number false false op arg = refl

encode_first : (i : Instr) → number_of (encode_of i) ≡ first_broken (encode_checks i)
unfolding encode_of join_of
encode_first i =
    encode_number (bad_register (row_of i)) (bad_function (argument_in (row_of i))) (opcode_byte (opcode_in (row_of i))) (argument_byte (argument_in (row_of i)))

pub encode_checked : (i : Instr) → FirstViolation (encode_checks i) (number_of (encode_of i))
encode_checked i = rw (encode_first i) (first_violation (encode_checks i) (omega arith, (omega arith, tt)))

pub encode_accepted : (i : Instr) → Valid i → Accepted (encode_of i)
unfolding encode_of
encode_accepted i v =
    record {
      opcode = opcode_byte (opcode_in (row_of i));
      argument = argument_byte (argument_in (row_of i));
      bytes = joins (row_of i) v.0 v.1.0;
    }

-- ---- putting

put_number : (t : Bool) (e : Encoded) (cs : List Check) → number_of e ≡ first_broken cs → number_of (cond t (Err BadBank) e) ≡ first_broken (check 1 0 t ∷ cs)
unfolding first_broken
put_number true e cs h = refl
put_number false e cs h = h

-- a refusal leaves a bank as it was
pub refusal_keeps : (e : Encoded) → ((bytes : ℕ × ℕ) → e ≡ Ok bytes → ⊥) → (bank : List ℕ) (at : ℕ)
    → (opcodes_after e bank at ≡ bank) × (arguments_after e bank at ≡ bank)
refusal_keeps (Ok bytes) h bank at = absurd (h bytes refl)
refusal_keeps (Err refusal) h bank at = (refl, refl)

module _ (i : Instr) (ops args : List ℕ) where
  put_first : number_of (put_of i ops args) ≡ first_broken (put_checks i ops args)
  unfolding put_of
  put_first = put_number (bad_bank ops || bad_bank args) (encode_of i) (encode_checks i) (encode_first i)

  numbered : Numbered (put_checks i ops args)
  numbered = (omega arith, (omega arith, (omega arith, tt)))

  put_accepted : NoneBroken (put_checks i ops args) → Accepted (put_of i ops args)
  unfolding put_of
  put_accepted v = rw v.0 (encode_accepted i v.1)

  no_bytes : (NoneBroken (put_checks i ops args) → ⊥) → (bytes : ℕ × ℕ) → put_of i ops args ≡ Ok bytes → ⊥
  no_bytes broken bytes e = broken (none_broken (put_checks i ops args) numbered (sym put_first ∙ ap number_of e))

  -- the answer and the banks after it decide the rest
  pub put_outcome : (at : ℕ) {answer : Encoded} {ops' args' : List ℕ} → answer ≡ put_of i ops args
      → ops' ≡ opcodes_after (put_of i ops args) ops at → args' ≡ arguments_after (put_of i ops args) args at → Put i ops args at answer ops' args'
  put_outcome at a o g =
      record {
        answers = a;
        opcodes = o;
        arguments = g;
        accepted = λ v. rw a (put_accepted v);
        checked =
            record {
              first = rw (a, put_first) (first_violation (put_checks i ops args) numbered);
              opcodes_kept = λ broken. o ∙ (refusal_keeps _ (no_bytes broken) ops at).0;
              arguments_kept = λ broken. g ∙ (refusal_keeps _ (no_bytes broken) args at).1;
            };
      }

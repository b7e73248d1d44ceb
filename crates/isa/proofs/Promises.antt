-- Whoever decodes or encodes by the table has all that is promised: from the one equation to the whole record.
-- Assumes nothing.
use mathlib.Core.Path.{◌≡◌}
use Prim.Native.Nat.{ℕ, ◌<◌}
use Rattle.isa.specs.Decode.{decode_of}
use Rattle.isa.specs.Encode.{Encoded, encode_of}
use Rattle.isa.specs.RoundTrip.{Decodes, Encodes}
use Rattle.isa.specs.declared.Instr.{Instr}
use Rattle.isa.proofs.DecodeEncode.{decoded_valid, decoded_assigned, decode_encode}
use Rattle.isa.proofs.EncodeDecode.{encode_decode}
use Rattle.isa.proofs.Refusals.{encode_checked, encode_accepted}

pub decodes : (op arg : ℕ) → op < 256 → arg < 256 → (i : Instr) → i ≡ decode_of op arg → Decodes op arg i
decodes op arg h k i t =
    record {
      table = t;
      assigned = rw t (decoded_assigned op arg h k);
      valid = rw t (decoded_valid op arg h k);
      writes_back = rw t (decode_encode op arg h k);
    }

pub encodes : (i : Instr) (e : Encoded) → e ≡ encode_of i → Encodes i e
encodes i e t =
    record {
      rule = t;
      accepted = rw t (encode_accepted i);
      checked = rw t (encode_checked i);
      reads_back = rw t (encode_decode i);
    }

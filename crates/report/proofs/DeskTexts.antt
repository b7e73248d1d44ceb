-- The desk's text from what was computed: parts of the input, admission's answer, a run's outcome; and that a buffer with room holds all of it.
-- Assumes nothing.
use Prim.Native.Nat.{ℕ, ◌/◌, ◌%◌, ◌≤◌}
use native.Mathlib.Omega.{arith}
use mathlib.Core.Path.{◌≡◌, sym, ap, ◌∙◌}
use mathlib.Core.List.{List, ◌++◌}
use lib.ListN.{length, get_or, take}
use lib.Seq.{take-append_seam}
use borrow.Author.Tests.{eq-eqb, ne_eqb}
use Rattle.model.specs.Run.{Outcome, call_of}
use Rattle.model.specs.State.{start_state}
use Rattle.model.specs.declared.State.{State}
use Rattle.rules.specs.Sheet.{listing, need}
use Rattle.admission.specs.Admission.{Admission}
use Rattle.report.specs.Answered.{RunEnds, Answered}
use Rattle.slices.specs.Parts.{part_of}
use Rattle.report.specs.Desk.{listing_in, desk_call, ran_of, ran_text, text_by, desk_text, answer_room}
use Rattle.lines.specs.Lines.{refused_line, admitted_line}
use Rattle.pages.specs.Page.{Page, page, Written}
use Rattle.pages.proofs.Pages.{written_same, write_within, write_whole}
use Rattle.report.proofs.Printed.{printed}
use Rattle.report.proofs.RunEnds.{run_ends}

pub ran_text_of : (ops args : List ℕ) {s : State} (o : Outcome) → s ≡ start_state → o ≡ call_of (desk_call ops args s) → ran_text o ≡ ran_text (ran_of ops args)
unfolding ran_of
ran_text_of ops args o e q = ap ran_text (q ∙ ap (λ (t : State). call_of (desk_call ops args t)) e)

module _ (input o g s l : List ℕ) (eo : o ≡ part_of input 0 256) (eg : g ≡ part_of input 256 256) (es : s ≡ part_of input 512 512)
    (el : l ≡ part_of input 1024 129) (n : ℕ) (a : Admission (listing o g s l) n) where
  parts_text : text_by n (listing o g s l) ≡ desk_text input
  unfolding desk_text
  parts_text = rw (a.answers, eo, eg, es, el)

  pub refused_text : (n ≡ 0 → ⊥) → refused_line (n % 256) (n / 256) ≡ desk_text input
  refused_text ne = sym (rw (ne_eqb n 0 ne)) ∙ parts_text

  pub admitted_text : n ≡ 0 → (b : ℕ) → b ≡ get_or l 1 0 → admitted_line b ++ ran_text (ran_of o g) ≡ desk_text input
  unfolding need
  admitted_text z b e = ap (λ (k : ℕ). admitted_line k ++ ran_text (ran_of o g)) e ∙ sym (rw (eq-eqb n 0 z)) ∙ parts_text

  pub ends : RunEnds (listing_in input)
  ends = rw (← eo, ← eg, ← es, ← el) (run_ends (listing o g s l) (λ e. a.third (a.answers ∙ e)))

-- a text that was written from the beginning ends within the buffer, and is whole where there is room
pub answered : {input before after t : List ℕ} {n : ℕ} → Written answer_room t (page before 0) (page after n) → t ≡ desk_text input
    → RunEnds (listing_in input) → Answered input before after n
answered {input} {before} v e ends =
    let w = written_same v e in
    let s = w.short in
    record {
      text = w.left;
      within = rw (ap (λ (p : Page). p.at) w.left, ap (λ (p : Page). p.bytes) w.left) (write_within (desk_text input) (page before 0) (omega arith));
      whole = λ room.
          let h = w.left ∙ write_whole (desk_text input) before (omega arith) in
          (ap (λ (p : Page). p.at) h, ap (λ (p : Page). p.bytes) h);
      ends = ends;
      printed = printed;
    }

-- the bytes that were answered, `out[..n]`, are then the text
pub answered_bytes : {input before after : List ℕ} {n : ℕ} → Answered input before after n → answer_room ≤ length before → take n after ≡ desk_text input
answered_bytes {input} a room = let w = a.whole room in rw (w.0, w.1) (take-append_seam (desk_text input) _)

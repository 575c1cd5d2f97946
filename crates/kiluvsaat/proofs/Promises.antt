-- The promises of the strings, each in one place under one name. The proofs are in the files beside this one.
use mathlib.Core.Path.{◌≡◌, sym, ap, ◌∙◌}
use mathlib.Core.Logic.{◌↔◌}
use mathlib.Core.Bool.{true}
use mathlib.Core.List.{List, [], ◌++◌, append-nil}
use Prim.Native.Nat.{ℕ, ◌≤◌}
use native.Mathlib.Omega.{arith}
use lib.ListN.{length, take, drop_of_length-le}
use Rattle.rules.specs.Records.{SetRecord, Arrays}
use Rattle.rules.specs.States.{StateRecord, StateArrays, form}
use Rattle.player.specs.declared.State.{State}
use Rattle.player.specs.Views.{state_of}
use Rattle.player.specs.Bytes.{set_bytes, state_bytes, set_at, state_at, readable}
use Rattle.player.specs.Widths.{AllBytes, SetFits, StateFits}
use Rattle.kiluvsaat.specs.Plans.{read_number, read_buffer, slots_number}
use Rattle.player.proofs.Sizes as sizes
use Rattle.player.proofs.Codes as strings
use Rattle.player.proofs.Inverse as inverse
use Rattle.player.proofs.Carried as carried
use Rattle.kiluvsaat.proofs.Planned as planned

-- ── there and back ──────────────────────────────────────────────────────────

-- what a string written for a state is: 140 bytes that can be read, and from which that state is read
pub record Written (w : StateRecord) (bs : List ℕ) : Type 0 where
  pub size : length bs ≡ 140
  pub bytes : AllBytes bs
  pub readable : readable bs ≡ true
  pub back : state_at bs ≡ w

-- every state whose numbers fit is written so
pub decode-encode : (w : StateRecord) → StateArrays w → StateFits w → Written w (state_bytes w)
decode-encode w a f = record { size = sizes.state-size w a; bytes = carried.state-bytes w f; readable = inverse.readable-back w a; back = inverse.state-back w a }

-- every string that can be read is the one written for what is read from it: there is one string for each state
pub encode-decode : (bs : List ℕ) → AllBytes bs → readable bs ≡ true → state_bytes (state_at bs) ≡ bs
encode-decode = inverse.state-whole

-- what a string written for a task set is
pub record SetWritten (r : SetRecord) (bs : List ℕ) : Type 0 where
  pub size : length bs ≡ 97
  pub bytes : AllBytes bs
  pub back : set_at bs ≡ r

-- every set whose numbers fit is written so
pub set-decode-encode : (r : SetRecord) → Arrays r → SetFits r → SetWritten r (set_bytes r)
set-decode-encode r a f = record { size = sizes.set-size r a; bytes = carried.set-bytes r f; back = inverse.set_back (set_bytes r) r [] a (sym (append-nil (set_bytes r))) }

-- every string of 97 bytes is the one written for the set that is read from it
pub set-encode-decode : (bs : List ℕ) → AllBytes bs → length bs ≡ 97 → set_bytes (set_at bs) ≡ bs
set-encode-decode bs a e = sym (append-nil (set_bytes (set_at bs))) ∙ ap (λ l. set_bytes (set_at bs) ++ l) (sym (drop_of_length-le bs {i = 97} (omega arith))) ∙ inverse.set-whole bs a (omega arith)

-- ── which strings are accepted ──────────────────────────────────────────────

-- a string is accepted as a state exactly if it is the one written for a state of the form whose numbers fit
pub accepted-iff : (bs : List ℕ) → (AllBytes bs × (readable bs ≡ true) × (form (state_at bs) ≡ true)) ↔ ((w : StateRecord) × StateArrays w × StateFits w × (form w ≡ true) × (bs ≡ state_bytes w))
accepted-iff bs = (there, back)
  where
    there : AllBytes bs × (readable bs ≡ true) × (form (state_at bs) ≡ true) → (w : StateRecord) × StateArrays w × StateFits w × (form w ≡ true) × (bs ≡ state_bytes w)
    there h = (state_at bs, carried.state-arrays bs, carried.state-fits bs h.0, h.2, sym (encode-decode bs h.0 h.1))

    back : ((w : StateRecord) × StateArrays w × StateFits w × (form w ≡ true) × (bs ≡ state_bytes w)) → AllBytes bs × (readable bs ≡ true) × (form (state_at bs) ≡ true)
    back h =
        let d = decode-encode h.0 h.1 h.2 in
        let e = h.4 in
        rw e (d.bytes, d.readable, ap form d.back ∙ h.3)

-- the set that a list read wrote is accepted: it has slots
pub read-accepted : (list o : List ℕ) → read_number list o ≡ 0 → 1 ≤ slots_number (take 97 (read_buffer list o))
read-accepted = planned.read-slots

-- ── the code's values ───────────────────────────────────────────────────────

-- what a struct of the code stands for has arrays of the lengths that the rules ask
pub struct-arrays : (st : State) → StateArrays (state_of st)
struct-arrays = strings.struct-arrays

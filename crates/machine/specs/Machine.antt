-- The bench, one clock at a time: what each call answers, leaves and records. Assumes nothing.
use Rattle.std.specs.Prelude.{ℕ, zero, suc, ◌+◌, ◌-◌, ◌^◌, Bool, if◌then◌else◌, ◌&&◌, List, [], ◌∷◌, ◌++◌, length, take, Ok, Err, Result, ◌==◌, nat_le, nat_lt}
use Rattle.faults.specs.declared.Refusal.{Refusal}
use Rattle.faults.specs.declared.Refusal.TheVariants.{TraceFull, NoInput, LevelsTooHigh, IdTooHigh, NotOnOffer, BadLanes, BridgeStopped}
use Rattle.faults.specs.declared.Layer.TheVariants.{Bench}
use Rattle.faults.specs.Faults.{Code, refusal_number, layer_number}
use Rattle.registers.specs.Address.{word_address}
use Rattle.registers.specs.Bits.{without}
use Rattle.peripheral.specs.Model.{Model}
use Rattle.peripheral.specs.Bus.{read_at, write_at, done, kept}
use Rattle.serial.specs.Upload as upload
use Rattle.serial.specs.declared.bridge.Bridge.TheVariants as bridge
use Rattle.trace.specs.declared.events.Event.{Event}
use Rattle.trace.specs.declared.events.Kind.TheVariants as kind
use Rattle.trace.specs.declared.view.View.{View}
use Rattle.trace.specs.Events.{event}
use Rattle.trace.specs.Views.{between}
use Rattle.board.specs.declared.state.Board.{Board}
use Rattle.board.specs.Map.{owns}
use Rattle.board.specs.Control.{holding, leveled, bridged, later, read_control, write_control, kept_board, offer, core_word, resets, powered, reset_board, flagged}
use Rattle.machine.specs.declared.Call.{Call}
use Rattle.machine.specs.declared.Call.TheVariants as call
use Rattle.machine.specs.declared.Stop.TheVariants as stop
use Rattle.machine.specs.Answers.{AnswerCode, done_code, word_code, reply_code, ran_code, stop_number}

-- ---- a bench between two calls

-- the board, the peripherals' state, the events written since power, and the length of the trace that is handed over
pub record Session : Type 0 where
  pub board : Board
  pub state : List ℕ
  pub used : ℕ
  pub room : ℕ

-- the trace lines that are free
abbrev pub free : Session → ℕ
free x = x.room - x.used

-- a bench that was just powered
abbrev pub start : Model → List ℕ → ℕ → Session
start m s room = record { board = powered; state = m.reset s; used = 0; room = room }

-- ---- what changed between two moments

-- what a host can see: the first 32 output words, the core word, the offer; words past the last one tell nothing
abbrev pub seen : Model → Board → List ℕ → View
seen m b s = record { words = take 32 (m.outputs s); core = core_word b; offer = offer b }

abbrev pub changes : Model → Board → List ℕ → Board → List ℕ → List Event
changes m b s b' s' = between b'.cycle (seen m b s) (seen m b' s')

-- the session with more events written
abbrev pub moved : Session → Board → List ℕ → List Event → Session
moved x b s es = record { board = b; state = s; used = x.used + length es; room = x.room }

-- ---- the bus: the control block is asked before the peripherals

abbrev pub bus_read : Model → Board → List ℕ → ℕ → Result ℕ Code
bus_read m b s a = if owns (word_address a) then read_control b a else read_at m s a

-- whether a write is refused, and what it leaves
abbrev pub bus_write : Model → Board → List ℕ → ℕ → ℕ → ℕ → Result (Unit {0}) Code
bus_write m b s a v l = if owns (word_address a) then done (write_control b a v l) else done (write_at m s a v l)

abbrev pub board_written : Board → ℕ → ℕ → ℕ → Board
board_written b a v l = if owns (word_address a) then kept_board b (write_control b a v l) else b

abbrev pub state_written : Model → List ℕ → ℕ → ℕ → ℕ → List ℕ
state_written m s a v l = if owns (word_address a) then s else kept s (write_at m s a v l)

-- ---- a byte for the serial bridge

-- the board once the bridge has taken a byte, and what follows from the byte
abbrev pub taken : Board → ℕ → Board
taken b v = bridged b (upload.after b.bridge v)

abbrev pub asked : Board → ℕ → upload.Answer
asked b v = upload.answer b.bridge v

-- a byte asks for a word to be written
abbrev pub is_write : upload.Answer → Bool
is_write u = u.kind == 1

-- the bus write that is asked for, with all four lanes
abbrev pub uploads : Model → Board → List ℕ → upload.Answer → Result (Unit {0}) Code
uploads m b s u = bus_write m b s u.address u.value 15

-- a refused write is answered 0xE0 and stops the bridge
abbrev pub upload_reply : Result (Unit {0}) Code → ℕ
upload_reply (Ok w) = 256
upload_reply (Err f) = 0xE0

abbrev pub upload_board : Board → upload.Answer → Result (Unit {0}) Code → Board
upload_board b u (Ok w) = board_written b u.address u.value 15
upload_board b u (Err f) = bridged b bridge.Stopped

-- the reply to a byte, 256 for none, and what the byte leaves, where the bridge has taken it and the board is b
abbrev pub byte_reply : Model → Board → List ℕ → upload.Answer → ℕ
byte_reply m b s u = if is_write u then upload_reply (uploads m b s u) else if u.kind == 2 then u.value else 256

abbrev pub byte_board : Model → Board → List ℕ → upload.Answer → Board
byte_board m b s u = if is_write u then upload_board b u (uploads m b s u) else b

abbrev pub byte_state : Model → List ℕ → upload.Answer → List ℕ
byte_state m s u = if is_write u then state_written m s u.address u.value 15 else s

-- ---- one clock: with SOCRES set only a reset happens

abbrev pub tick_board : Model → Board → List ℕ → Board
tick_board m b s = if resets b then reset_board (later b 1) else flagged (later b 1) (m.raised s)

abbrev pub tick_state : Model → Board → List ℕ → List ℕ
tick_state m b s = if resets b then m.reset s else m.clock s

abbrev pub tick_events : Model → Board → List ℕ → List Event
tick_events m b s = changes m b s (tick_board m b s) (tick_state m b s)

abbrev pub tick : Model → Session → Session
tick m x = moved x (tick_board m x.board x.state) (tick_state m x.board x.state) (tick_events m x.board x.state)

-- ---- a run

abbrev pub last_cycle : ℕ
last_cycle = 1000000000000

-- a clock passes only below the last cycle and while 34 lines are free, the most that it can write
abbrev pub passes : Session → Bool
passes x = nat_lt x.board.cycle last_cycle && nat_le 34 (free x)

-- why a run stops short: the last cycle comes before the trace
abbrev pub cut_by : Session → ℕ
cut_by x = stop_number (if nat_lt x.board.cycle last_cycle then stop.TraceFull else stop.LastCycle)

-- what a run gives: the clocks that passed, why no more did, and the rest as for any call
pub record Ran : Type 0 where
  pub clocks : ℕ
  pub stop : ℕ
  pub session : Session
  pub events : List Event

abbrev pub run : Model → ℕ → Session → Ran
run m zero x = record { clocks = 0; stop = stop_number stop.Whole; session = x; events = [] }
run m (suc n) x =
    if passes x then record {
      clocks = (run m n (tick m x)).clocks + 1;
      stop = (run m n (tick m x)).stop;
      session = (run m n (tick m x)).session;
      events = tick_events m x.board x.state ++ (run m n (tick m x)).events;
    } else record { clocks = 0; stop = cut_by x; session = x; events = [] }

-- ---- the calls

-- what a call gives
pub record Step : Type 0 where
  pub answer : Result AnswerCode Code
  pub session : Session
  pub events : List Event

-- an accepted call: its own event, then what changed
abbrev pub accepts : Model → Session → AnswerCode → Event → Board → List ℕ → Step
accepts m x a own b s = record {
  answer = Ok a;
  session = moved x b s (own ∷ changes m x.board x.state b s);
  events = own ∷ changes m x.board x.state b s;
}

-- a refused call changes and writes nothing
abbrev pub refuses : Session → Code → Step
refuses x f = record { answer = Err f; session = x; events = [] }

-- a refusal of the bench's own
abbrev pub fault : Refusal → ℕ → Code
fault r place = record { refusal = refusal_number r; layer = layer_number Bench; place = place }

-- an accepted call writes at most 35 events
abbrev pub room_for : Session → Result (Unit {0}) Code
room_for x = if nat_lt (free x) 35 then Err (fault TraceFull x.used) else Ok tt

-- goes on where a check was passed, or hands its fault on
abbrev pub and_then : {A : Type 0} → Session → Result A Code → (A → Step) → Step
and_then x (Ok w) go = go w
and_then x (Err f) go = refuses x f

abbrev pub if_room : Session → Step → Step
if_room x go = and_then x (room_for x) (λ _. go)

abbrev pub ran_step : Ran → Step
ran_step r = record { answer = Ok (ran_code r.clocks r.stop); session = r.session; events = r.events }

abbrev pub perform : Model → Session → Call → Step
perform m x (call.Read a) =
    if_room x (and_then x (bus_read m x.board x.state a)
    (λ w. accepts m x (word_code w) (event x.board.cycle kind.Read a 0 0 w) x.board x.state))
perform m x (call.Write a v l) =
    if nat_lt 15 l then refuses x (fault BadLanes l)
    else if_room x (and_then x (bus_write m x.board x.state a v l)
    (λ _. accepts m x done_code (event x.board.cycle kind.Write a v l 0) (board_written x.board a v l) (state_written m x.state a v l)))
perform m x (call.Pin i v) =
    if m.input i
    then if_room x (accepts m x done_code (event x.board.cycle kind.Pin i v 0 0) x.board (m.feed x.state i v))
    else refuses x (fault NoInput i)
perform m x (call.Trigger l) =
    if nat_lt 65535 l then refuses x (fault LevelsTooHigh l)
    else if_room x (accepts m x done_code (event x.board.cycle kind.Trigger 0 l 0 0) (leveled x.board l) x.state)
perform m x (call.Acknowledge i) =
    if nat_lt 31 i then refuses x (fault IdTooHigh i)
    else if offer x.board == i
    then if_room x (accepts m x done_code (event x.board.cycle kind.Acknowledge i 0 0 0)
    (holding x.board x.board.control x.board.enable (without x.board.flags (2 ^ i))) x.state)
    else refuses x (fault NotOnOffer i)
perform m x (call.Byte v) =
    if upload.is_stopped x.board.bridge then refuses x (fault BridgeStopped 0)
    else if_room x (accepts m x (reply_code (byte_reply m (taken x.board v) x.state (asked x.board v)))
    (event x.board.cycle kind.Byte 0 v 0 (byte_reply m (taken x.board v) x.state (asked x.board v)))
    (byte_board m (taken x.board v) x.state (asked x.board v))
    (byte_state m x.state (asked x.board v)))
perform m x call.Reset =
    if_room x (accepts m x done_code (event x.board.cycle kind.Reset 0 0 0 0) (reset_board x.board) (m.reset x.state))
perform m x (call.Run n) = ran_step (run m n x)

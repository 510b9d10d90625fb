-- The lines of a script, one after another.
use Rattle.std.proofs.Common.{◌≡◌, ◌∙◌, ℕ, suc, ◌+◌, ◌-◌, ◌≤◌, List, [], ◌∷◌, ◌++◌, Bool, true, false, Option, None, Some, IfSome, Result, Ok, Err, OnOk, IfErr, refl, sym, ap, subst, fold, append-nil, append_assoc, length, take, length-append, arith, if◌then◌else◌}
use Rattle.std.proofs.Math.Seq.{take-append_seam}
use Rattle.std.specs.Prelude.{codes}
use Rattle.std.specs.Io.KnownBytes.{Appends, Keeps}
use Rattle.script_text.specs.Lines.{script_lines}
use Rattle.script_text.specs.Streams.{AppendsPart, EndsLine, IsUnread, fits}
use Rattle.script_text.specs.Text.{line, numeral}
use Rattle.script_text.specs.declared.fault.ScriptFault.{ScriptFault}
use Rattle.script_text.specs.declared.fault.ScriptFault.TheVariants as ends
use Rattle.script_text.specs.declared.fault.LineFault.{LineFault}
use Rattle.script_text.specs.declared.fault.LineFault.TheVariants as line_fault
use Rattle.script_text.proofs.Known.{appends_kept, appends_more, appends_nil}
use Rattle.object_core.specs.declared.op.Op.{Op}
use Rattle.store_core.specs.declared.sealed.GroupId.{GroupId}
use Rattle.world_events.specs.declared.event.Ask.{Ask}
use Rattle.world_events.specs.declared.event.Event.{Event}
use Rattle.world_events.specs.declared.fault.WorldFault.{WorldFault as Fault}
use Rattle.world_events.specs.declared.event.Event.TheVariants as happens
use Rattle.world_core.specs.World.{World, world_step, refusal_of, is_drop}
use Rattle.world_script.specs.declared.command.Command.{Command}
use Rattle.world_script.specs.declared.command.Command.TheVariants.{Submit, List as ListNames, Ready}
use Rattle.script_printing.specs.Text.{refused_text}
use Rattle.world_script.specs.Script.{Step, Goes, IsBad, IsOther, BadAt, Output, Machine, event_told, event_line, line_step, script_step, onward, behind, outputs, output_before, script_output, Whole, WroteOf, RunsOutAt, EndsFor, ask_now, ready_line_text, unrefused, settle_events, settle_line}
use Rattle.world_script.specs.Steps.{Does, at, GoesTo, IsFaultOf, IsOfLines, LineWrote, RunsOut}

pub on_ok : {A E : Type 0} {P Q : Type 0} (r : Result A E) → (P → Q) → OnOk r P → OnOk r Q
on_ok (Ok x) f p = f p
on_ok (Err e) f p = p

-- what a refused event has done
pub refused_does : (tick : ℕ) (w next : World) (e : Event) (fault : Fault) (old new : List ℕ) → refusal_of w e ≡ Some fault → (is_drop e fault ≡ true → next ≡ world_step w e) → (is_drop e fault ≡ false → next ≡ w)
    → new ≡ old ++ refused_text fault → Does (at tick w) (event_line (at tick w) e) old new (at tick next)
refused_does tick w next e fault old new refused steps stays text =
    let line : event_line (at tick w) e ≡ event_told (at tick w) e (Some fault) = ap (event_told (at tick w) e) refused in
    subst (λ l. Does (at tick w) l old new (at tick next)) (sym line) (text, ap (at tick) (go (is_drop e fault) refl))
  where
    go : (b : Bool) → is_drop e fault ≡ b → next ≡ fold world_step w (if is_drop e fault then e ∷ [] else [])
    go true is = steps is ∙ ap (λ b. fold world_step w (if b then e ∷ [] else [])) (sym is)
    go false is = stays is ∙ ap (λ b. fold world_step w (if b then e ∷ [] else [])) (sym is)

-- the texts of two parts are one text
pub joined : (done text : List ℕ) (o : Output) → behind done (behind text o) ≡ behind (done ++ text) o
joined done text o = let e : done ++ (text ++ o.text) ≡ (done ++ text) ++ o.text = sym (append_assoc done text o.text) in λ i. record { text = e i; ending = o.ending }

-- a line that goes on
pub line_goes : (whole : Output) (done text line : List ℕ) (rest all : List (List ℕ)) (taken : ℕ) (s next : Option Machine) → all ≡ line ∷ rest
    → whole ≡ behind done (outputs script_step all taken s) → line_step script_step s line ≡ Goes text next → whole ≡ behind (done ++ text) (outputs script_step rest (taken + 1) next)
line_goes whole done text line rest all taken s next cut is goes =
    is ∙ ap (λ ls. behind done (outputs script_step ls taken s)) cut ∙ ap (λ st. behind done (onward st (taken + 1) (outputs script_step rest (taken + 1)))) goes ∙ joined done text (outputs script_step rest (taken + 1) next)

-- a line that is bad
pub line_is_bad : (whole : Output) (done line : List ℕ) (rest all : List (List ℕ)) (taken : ℕ) (s : Option Machine) → all ≡ line ∷ rest
    → whole ≡ behind done (outputs script_step all taken s) → line_step script_step s line ≡ IsBad → whole ≡ behind done (record { text = []; ending = BadAt (taken + 1) })
line_is_bad whole done line rest all taken s cut is bad =
    is ∙ ap (λ ls. behind done (outputs script_step ls taken s)) cut ∙ ap (λ st. behind done (onward st (taken + 1) (outputs script_step rest (taken + 1)))) bad

-- ---- how far a script came

-- the lines before these of a script, with what they print, whatever is behind them
pub record IsBehind (script done : List ℕ) (lines : List (List ℕ)) (taken : ℕ) (s : Option Machine) : Type 0 where
  pub before : List (List ℕ)
  pub cut : script_lines script ≡ before ++ lines
  pub long : length before ≡ taken
  pub goes : (rest : List (List ℕ)) → outputs script_step (before ++ rest) 0 None ≡ behind done (outputs script_step rest taken s)

pub behind_none : (script : List ℕ) → IsBehind script [] (script_lines script) 0 None
behind_none script = record { before = []; cut = refl; long = refl; goes = λ rest. refl }

pub behind_more : (script done text line : List ℕ) (rest lines : List (List ℕ)) (taken : ℕ) (s next : Option Machine) → lines ≡ line ∷ rest → line_step script_step s line ≡ Goes text next
    → IsBehind script done lines taken s → IsBehind script (done ++ text) rest (taken + 1) next
behind_more script done text line rest lines taken s next is goes h = record {
  before = h.before ++ line ∷ [];
  cut = h.cut ∙ ap (λ ls. h.before ++ ls) is ∙ sym (append_assoc h.before (line ∷ []) rest);
  long = length-append h.before (line ∷ []) ∙ ap (λ n. n + 1) h.long;
  goes = λ more. line_goes (outputs script_step ((h.before ++ line ∷ []) ++ more) 0 None) done text line more (line ∷ more) taken s next refl
      (ap (λ ls. outputs script_step ls 0 None) (append_assoc h.before (line ∷ []) more) ∙ h.goes (line ∷ more)) goes;
}

-- what the lines before print, where nothing more was written
pub ran_out : (script done line : List ℕ) (rest lines : List (List ℕ)) (taken number : ℕ) (s : Option Machine) (old mid new : Option (List ℕ)) → lines ≡ line ∷ rest → number ≡ taken + 1
    → IsBehind script done lines taken s → Appends old mid done → Keeps mid new → RunsOutAt script old new number
ran_out script done line rest lines taken number s old mid new is counted h app kept =
    let there : number - 1 ≡ length h.before = let e = h.long in omega arith in
    let first : take (number - 1) (script_lines script) ≡ h.before = (λ i. take (there i) (h.cut i)) ∙ take-append_seam h.before lines in
    let out : output_before number script ≡ record { text = done ++ []; ending = Whole } =
    ap (λ ls. outputs script_step ls 0 None) (first ∙ sym (append-nil h.before)) ∙ h.goes [] in
    let whole : length (script_lines script) ≡ length h.before + suc (length rest) = ap length h.cut ∙ length-append h.before lines ∙ ap (λ ls. length h.before + length ls) is in
    record {
      inside = let e = h.long in omega arith;
      goes = ap (λ (o : Output). o.ending) out;
      wrote = subst (Appends old new) (sym (ap (λ (o : Output). o.text) out ∙ append-nil done)) (appends_kept old mid new done app kept);
    }

pub runs_out : (script done line : List ℕ) (rest lines : List (List ℕ)) (taken number : ℕ) (s after : Option Machine) (old mid new : Option (List ℕ)) (fault : ScriptFault) → lines ≡ line ∷ rest → number ≡ taken + 1
    → IsBehind script done lines taken s → Appends old mid done → LineWrote s line number after mid new (Err fault) → RunsOut script old new fault
runs_out script done line rest lines taken number s after old mid new (ends.OutOfMemory n) is counted h app wrote =
    ran_out script done line rest lines taken n s old mid new is (wrote.0 ∙ counted) h app wrote.1
runs_out script done line rest lines taken number s after old mid new (ends.BadLine n) is counted h app wrote = tt
runs_out script done line rest lines taken number s after old mid new ends.Write is counted h app wrote = tt
runs_out script done line rest lines taken number s after old mid new ends.Read is counted h app wrote = tt
runs_out script done line rest lines taken number s after old mid new ends.TooMuch is counted h app wrote = tt

-- a script that was read, and how its lines ended
pub ends_for : (input : List ℕ) (old new : Option (List ℕ)) (result : Result (Unit {0}) ScriptFault) → fits input → IfErr result IsOfLines → IfErr result (RunsOut input old new) → EndsFor input old new result
ends_for input old new (Ok done) fine lines out = fine
ends_for input old new (Err (ends.BadLine n)) fine lines out = fine
ends_for input old new (Err (ends.OutOfMemory n)) fine lines out = (λ least. fine, out)
ends_for input old new (Err ends.Write) fine lines out = fine
ends_for input old new (Err ends.Read) fine lines out = tt
ends_for input old new (Err ends.TooMuch) fine lines out = absurd lines

-- a script that was not read
pub unread_ends : (remaining same : Option (List ℕ)) (fault : ScriptFault) → IsUnread remaining fault → IfSome remaining (λ input. EndsFor input same same (Err fault))
unread_ends None same fault unread = tt
unread_ends (Some input) same (ends.BadLine n) unread = absurd unread
unread_ends (Some input) same (ends.OutOfMemory n) unread =
    subst (λ m. EndsFor input same same (Err (ends.OutOfMemory m))) (sym unread) (λ least. absurd (omega arith), record { inside = omega arith; goes = refl; wrote = appends_nil same })
unread_ends (Some input) same ends.Write unread = absurd unread
unread_ends (Some input) same ends.Read unread = tt
unread_ends (Some input) same ends.TooMuch unread = unread

-- ---- what was written

printed_is : (before after : Option Machine) (line start printed given : List ℕ) → GoesTo (line_step script_step before line) start printed after → start ≡ [] → given ≡ printed
    → (text : List ℕ) × (line_step script_step before line ≡ Goes text after) × (given ≡ text)
printed_is before after line start printed given goes empty same = go (line_step script_step before line) refl goes
  where
    go : (st : Step (Option Machine)) → line_step script_step before line ≡ st → GoesTo st start printed after → (text : List ℕ) × (line_step script_step before line ≡ Goes text after) × (given ≡ text)
    go (Goes text s) is there = (text, is ∙ ap (Goes text) (sym there.1), same ∙ there.0 ∙ ap (λ l. l ++ text) empty)
    go IsBad is there = absurd there
    go IsOther is there = absurd there

pub line_written : (before : Option Machine) (line : List ℕ) (number : ℕ) (after : Option Machine) (old new : Option (List ℕ)) (result : Result (Unit {0}) ScriptFault) (start printed given : List ℕ)
    → GoesTo (line_step script_step before line) start printed after → start ≡ [] → given ≡ printed
    → OnOk result (Appends old new given) → AppendsPart old new given → IfErr result (λ fault. fault ≡ ends.Write) → LineWrote before line number after old new result
line_written before line number after old new result start printed given goes empty same all part only = go (printed_is before after line start printed given goes empty same) result all only
  where
    go : (text : List ℕ) × (line_step script_step before line ≡ Goes text after) × (given ≡ text) → (r : Result (Unit {0}) ScriptFault) → OnOk r (Appends old new given) → IfErr r (λ fault. fault ≡ ends.Write)
        → LineWrote before line number after old new r
    go p (Ok done) all only = (p.0, p.1, subst (Appends old new) p.2 all)
    go p (Err ends.Write) all only = (p.0, p.1, subst (AppendsPart old new) p.2 part)
    go p (Err (ends.BadLine n)) all only = absurd (cc)
    go p (Err (ends.OutOfMemory n)) all only = absurd (cc)
    go p (Err ends.Read) all only = absurd (cc)
    go p (Err ends.TooMuch) all only = absurd (cc)

-- a line that has ended
pub line_ended : (before : Option Machine) (line : List ℕ) (number : ℕ) (after : Option Machine) (old new : Option (List ℕ)) (ended : Result (Unit {0}) LineFault) (result : Result (Unit {0}) ScriptFault) (start printed given : List ℕ)
    → OnOk ended (GoesTo (line_step script_step before line) start printed after) → IfErr ended (IsFaultOf (line_step script_step before line)) → start ≡ [] → given ≡ printed
    → EndsLine ended number given old new result → LineWrote before line number after old new result
line_ended before line number after old new (Ok done) result start printed given goes fault empty same ends = line_written before line number after old new result start printed given goes empty same ends.0 ends.1 ends.2
line_ended before line number after old new (Err line_fault.BadLine) result start printed given goes fault empty same ends = subst (LineWrote before line number after old new) (sym ends.0) (refl, fault, ends.1)
line_ended before line number after old new (Err line_fault.OutOfMemory) result start printed given goes fault empty same ends = subst (LineWrote before line number after old new) (sym ends.0) (refl, ends.1)

pub ended_by : (input : List ℕ) (old mid new : Option (List ℕ)) (done line : List ℕ) (rest lines : List (List ℕ)) (taken number : ℕ) (s after : Option Machine) (fault : ScriptFault) → Appends old mid done
    → script_output input ≡ behind done (outputs script_step lines taken s) → lines ≡ line ∷ rest → number ≡ taken + 1
    → LineWrote s line number after mid new (Err fault) → WroteOf input old new (Err fault)
ended_by input old mid new done line rest lines taken number s after (ends.BadLine n) app is cut counted wrote =
    let end : script_output input ≡ record { text = done ++ []; ending = BadAt (taken + 1) } = line_is_bad (script_output input) done line rest lines taken s cut is wrote.1 in (
      ap (λ (o : Output). o.ending) end ∙ ap BadAt (sym (wrote.0 ∙ counted)),
      subst (Appends old new) (sym (ap (λ (o : Output). o.text) end ∙ append-nil done)) (appends_kept old mid new done app wrote.2),
    )
ended_by input old mid new done line rest lines taken number s after ends.Write app is cut counted wrote =
    let text = wrote.0 in
    let (p, q, more) = wrote.2 in
    let o : Output = outputs script_step rest (taken + 1) after in
    let all : script_output input ≡ behind (done ++ text) o = line_goes (script_output input) done text line rest lines taken s after cut is wrote.1 in
    let pieces : (done ++ p) ++ (q.0 ++ o.text) ≡ (done ++ text) ++ o.text =
    append_assoc done p (q.0 ++ o.text) ∙ ap (λ l. done ++ l) (sym (append_assoc p q.0 o.text) ∙ ap (λ l. l ++ o.text) q.1) ∙ sym (append_assoc done text o.text) in
    (done ++ p, (q.0 ++ o.text, pieces ∙ sym (ap (λ (v : Output). v.text) all)), appends_more old mid new done p app more)
ended_by input old mid new done line rest lines taken number s after (ends.OutOfMemory n) app is cut counted wrote =
    (done, ((outputs script_step lines taken s).text, sym (ap (λ (v : Output). v.text) is)), appends_kept old mid new done app wrote.1)
ended_by input old mid new done line rest lines taken number s after ends.Read app is cut counted wrote = absurd wrote
ended_by input old mid new done line rest lines taken number s after ends.TooMuch app is cut counted wrote = absurd wrote

-- ---- commands

pub then_ended : {E F P Q : Type 0} (done : Result (Unit {0}) E) (ended : Result (Unit {0}) F) → (P → Q) → OnOk ended (done ≡ Ok tt) → OnOk done P → OnOk ended Q
then_ended {E} {F} {P} {Q} done (Ok x) f same p = f (subst (λ r. OnOk r P) same p)
then_ended done (Err e) f same p = same

pub submit_goes : (m after : Machine) (session : ℕ) (pool namespace object : List ℕ) (ops : List Op) (a : Ask) (command : Command) (old new : List ℕ) → command ≡ Submit session pool namespace object ops
    → a ≡ ask_now m.world.front m.tick session pool namespace → Does m (event_line m (happens.Submit a object ops)) old new after → GoesTo (script_step (Some m) command) old new (Some after)
submit_goes m after session pool namespace object ops a command old new is same does =
    let now : Does m (event_line m (happens.Submit (ask_now m.world.front m.tick session pool namespace) object ops)) old new after = subst (λ v. Does m (event_line m (happens.Submit v object ops)) old new after) same does in
    subst (λ k. GoesTo (script_step (Some m) k) old new (Some after)) (sym is) (now.0, ap Some now.1)

pub list_goes : (m after : Machine) (session : ℕ) (pool namespace : List ℕ) (a : Ask) (command : Command) (old new : List ℕ) → command ≡ ListNames session pool namespace
    → a ≡ ask_now m.world.front m.tick session pool namespace → Does m (event_line m (happens.List a)) old new after → GoesTo (script_step (Some m) command) old new (Some after)
list_goes m after session pool namespace a command old new is same does =
    let now : Does m (event_line m (happens.List (ask_now m.world.front m.tick session pool namespace))) old new after = subst (λ v. Does m (event_line m (happens.List v)) old new after) same does in
    subst (λ k. GoesTo (script_step (Some m) k) old new (Some after)) (sym is) (now.0, ap Some now.1)

pub ready_goes : (m : Machine) (id : GroupId) (w : World) (command : Command) (old new : List ℕ) → command ≡ Ready id → w ≡ m.world → new ≡ old ++ ready_line_text w id → GoesTo (script_step (Some m) command) old new (Some m)
ready_goes m id w command old new is same text =
    subst (λ k. GoesTo (script_step (Some m) k) old new (Some m)) (sym is) (text ∙ ap (λ v. old ++ ready_line_text v id) same, refl)

-- ---- settling

pub settles_does : (tick : ℕ) (w after : World) (count : ℕ) (old new : List ℕ) → after ≡ fold world_step w (settle_events w) → count ≡ unrefused w (settle_events w) → new ≡ old ++ line (codes "settled " ++ numeral count)
    → Does (at tick w) (settle_line (at tick w)) old new (at tick after)
settles_does tick w after count old new steps counted text = (text ∙ ap (λ n. old ++ line (codes "settled " ++ numeral n)) counted, ap (at tick) steps)

-- The command line of seatdesk, as clap reads it: its commands, each with the values that it asks for.
use Rattle.std.specs.Prelude.{◌≡◌, ℕ, Bool, List, Some, [], ◌∷◌, codes, true, false}
use Rattle.clap.specs.Words.{App, Rule, Text, app_of, new_app, new_rule, rule_of, with_rule, with_subcommand}
use Rattle.clap.specs.declared.builder.action.ArgAction.TheVariants.{Append, SetTrue}
use Rattle.clap.specs.declared.builder.arg.Arg.{Arg}
use Rattle.clap.specs.declared.builder.command.Command.{Command}
use Rattle.clap.specs.declared.builder.command.Command.TheViews.{out-Command as fields_of}
use Rattle.seat_words.specs.declared.naming.Name.{Name}
use Rattle.seat_words.specs.declared.naming.Named.{Named}
use Rattle.seat_words.specs.declared.naming.Named.TheVariants as named
use Rattle.seat_words.specs.declared.commands.arguments.Argument.{Argument}
use Rattle.seat_words.specs.declared.commands.arguments.Described.{Described}
use Rattle.seat_words.specs.declared.commands.arguments.Argument.TheVariants.{Flag, Optional, OptionalWord, Rest, Several, Wanted, WantedWord, Words}

-- an option with a value, which must be there
abbrev pub required_option : Text → Rule
required_option id = record (new_rule id) { long = Some id; required = true; value_names = 1 }

-- an option with a value, which may be left out
abbrev pub optional : Text → Rule
optional id = record (new_rule id) { long = Some id; value_names = 1 }

-- the same, which may be there more than once
abbrev pub optional_several : Text → Rule
optional_several id = record (optional id) { action = Some Append }

-- an option without a value: it is there, or it is not
abbrev pub flag : Text → Rule
flag id = record (new_rule id) { long = Some id; action = Some SetTrue }

-- the same, which has a letter too
abbrev pub lettered_flag : Text → ℕ → Rule
lettered_flag id letter = record (flag id) { short = Some letter }

-- a value by its place, which must be there
abbrev pub required_value : Text → Rule
required_value id = record (new_rule id) { required = true; value_names = 1 }

-- a value by its place, which may be left out
abbrev pub optional_value : Text → Rule
optional_value id = record (new_rule id) { value_names = 1 }

-- the same, of which there may be more
abbrev pub optional_values : Text → Rule
optional_values id = record (optional_value id) { action = Some Append }

-- the same, where what stands behind the first of them is one of them too, whatever it begins with
abbrev pub trailing_values : Text → Rule
trailing_values id = record (optional_values id) { trailing_var_arg = true }

-- what is read of an argument
abbrev pub rule_as : Argument → Rule
rule_as (Wanted id value help) = required_option id.now
rule_as (Optional id value help) = optional id.now
rule_as (Several id value help) = optional_several id.now
rule_as (Flag id help) = flag id.now
rule_as (WantedWord id value help) = required_value id.now
rule_as (OptionalWord id value help) = optional_value id.now
rule_as (Words id value help) = optional_values id.now
rule_as (Rest id value help) = trailing_values id.now

-- with these arguments, one after the other
abbrev pub with_arguments : App → List Argument → App
with_arguments a [] = a
with_arguments a (x ∷ xs) = with_arguments (with_rule a (rule_as x)) xs

-- with the switches of each command, -v and --quiet, which stand ahead of it or behind it
abbrev pub with_switches : App → App
with_switches a = with_rule (with_rule a (lettered_flag (codes "verbose") 118)) (flag (codes "quiet"))

unfoldable pub ladder_app : App
ladder_app = new_app (codes "ladder")

unfoldable pub check_app : App
check_app = with_rule (new_app (codes "check")) (required_value (codes "set"))

unfoldable pub flights_app : App
flights_app = with_rule (with_rule (with_rule (with_rule (with_rule (new_app (codes "flights"))
    (required_option (codes "first")))
    (required_option (codes "days")))
    (flag (codes "csv")))
    (flag (codes "json")))
    (required_value (codes "set"))

-- what a command asks for that works on the limits of a horizon
unfoldable pub horizon_app : Text → App
horizon_app name = with_rule (with_rule (with_rule (with_rule (with_rule (new_app name)
    (required_option (codes "set")))
    (required_option (codes "limits")))
    (required_option (codes "first")))
    (required_option (codes "days")))
    (optional (codes "season"))

unfoldable pub cover_app : App
cover_app = with_rule (with_rule (horizon_app (codes "cover"))
    (flag (codes "csv")))
    (flag (codes "json"))

unfoldable pub rooms_app : App
rooms_app = with_rule (with_rule (with_rule (with_rule (with_rule (with_rule (with_rule (horizon_app (codes "rooms"))
    (optional (codes "day")))
    (optional (codes "pair")))
    (flag (codes "bars")))
    (flag (codes "csv")))
    (flag (codes "json")))
    (flag (codes "open")))
    (optional_value (codes "journal"))

unfoldable pub loads_app : App
loads_app = with_rule (with_rule (with_rule (with_rule (with_rule (with_rule (with_rule (with_rule (with_rule (with_rule (with_rule (with_rule (horizon_app (codes "loads"))
    (optional (codes "flight")))
    (optional (codes "day")))
    (optional (codes "pair")))
    (optional (codes "by")))
    (flag (codes "bars")))
    (flag (codes "csv")))
    (flag (codes "json")))
    (flag (codes "html")))
    (flag (codes "open")))
    (flag (codes "shards")))
    (optional_value (codes "journal")))
    (optional_values (codes "others"))

unfoldable pub run_app : App
run_app = with_rule (with_rule (with_rule (with_rule (with_rule (with_rule (with_rule (with_rule (with_rule (with_rule (horizon_app (codes "run"))
    (optional (codes "after")))
    (optional (codes "behind")))
    (optional (codes "resume")))
    (required_option (codes "today")))
    (required_option (codes "journal")))
    (optional (codes "changes")))
    (optional (codes "refused")))
    (flag (codes "no-clobber")))
    (flag (codes "again")))
    (optional_values (codes "scripts"))

unfoldable pub serve_app : App
serve_app = with_rule (with_rule (with_rule (with_rule (with_rule (with_rule (with_rule (with_rule (with_rule (horizon_app (codes "serve"))
    (optional (codes "today")))
    (required_option (codes "journal")))
    (optional_several (codes "desk")))
    (optional (codes "manager")))
    (optional (codes "status")))
    (optional (codes "every")))
    (optional (codes "feed")))
    (optional (codes "behind")))
    (flag (codes "close-departed"))

unfoldable pub route_app : App
route_app = with_rule (with_rule (with_rule (new_app (codes "route"))
    (required_option (codes "shards")))
    (optional (codes "changes")))
    (optional_values (codes "scripts"))

unfoldable pub bookings_app : App
bookings_app = with_rule (with_rule (with_rule (with_rule (with_rule (with_rule (with_rule (horizon_app (codes "bookings"))
    (optional_several (codes "locator")))
    (optional (codes "flight")))
    (optional (codes "day")))
    (flag (codes "csv")))
    (flag (codes "json")))
    (flag (codes "open")))
    (required_value (codes "journal"))

unfoldable pub audit_app : App
audit_app = with_rule (with_rule (with_rule (with_rule (with_rule (with_rule (with_rule (with_rule (with_rule (horizon_app (codes "audit"))
    (optional (codes "after")))
    (optional (codes "behind")))
    (optional (codes "today")))
    (optional (codes "refused")))
    (flag (codes "sealed")))
    (flag (codes "open")))
    (flag (codes "shards")))
    (required_value (codes "journal")))
    (optional_values (codes "scripts"))

unfoldable pub seal_app : App
seal_app = with_rule (horizon_app (codes "seal")) (required_value (codes "journal"))

unfoldable pub recover_app : App
recover_app = with_rule (with_rule (horizon_app (codes "recover"))
    (flag (codes "cut")))
    (required_value (codes "journal"))

unfoldable pub replies_app : App
replies_app = with_rule (with_rule (with_rule (with_rule (with_rule (with_rule (with_rule (with_rule (with_rule (with_rule (horizon_app (codes "replies"))
    (optional (codes "after")))
    (optional (codes "behind")))
    (required_option (codes "today")))
    (optional (codes "refused")))
    (optional (codes "session")))
    (optional (codes "from")))
    (flag (codes "csv")))
    (flag (codes "json")))
    (required_value (codes "journal")))
    (optional_values (codes "scripts"))

unfoldable pub waiting_app : App
waiting_app = with_rule (with_rule (with_rule (with_rule (with_rule (with_rule (with_rule (with_rule (horizon_app (codes "waiting"))
    (optional (codes "flight")))
    (optional (codes "day")))
    (flag (codes "csv")))
    (flag (codes "json")))
    (flag (codes "open")))
    (flag (codes "shards")))
    (required_value (codes "journal")))
    (optional_values (codes "others"))

unfoldable pub pickup_app : App
pickup_app = with_rule (with_rule (with_rule (with_rule (with_rule (with_rule (with_rule (with_rule (horizon_app (codes "pickup"))
    (optional (codes "behind")))
    (optional (codes "since")))
    (optional (codes "flight")))
    (optional (codes "by")))
    (flag (codes "csv")))
    (flag (codes "json")))
    (flag (codes "open")))
    (required_value (codes "journal"))

unfoldable pub history_app : App
history_app = with_rule (with_rule (with_rule (with_rule (with_rule (with_rule (with_rule (horizon_app (codes "history"))
    (optional (codes "locator")))
    (optional (codes "flight")))
    (optional (codes "day")))
    (flag (codes "csv")))
    (flag (codes "json")))
    (flag (codes "open")))
    (required_value (codes "journal"))

unfoldable pub avs_app : App
avs_app = with_rule (with_rule (with_rule (with_rule (with_rule (with_rule (with_rule (horizon_app (codes "avs"))
    (optional (codes "since")))
    (flag (codes "numeric")))
    (optional (codes "partner")))
    (optional (codes "flight")))
    (optional (codes "day")))
    (flag (codes "open")))
    (required_value (codes "journal"))

unfoldable pub reconcile_app : App
reconcile_app = with_rule (with_rule (with_rule (with_rule (with_rule (horizon_app (codes "reconcile"))
    (optional (codes "session")))
    (flag (codes "all")))
    (flag (codes "open")))
    (required_value (codes "theirs")))
    (required_value (codes "journal"))

unfoldable pub compare_app : App
compare_app = with_rule (with_rule (with_rule (new_app (codes "compare"))
    (required_option (codes "from")))
    (required_option (codes "to")))
    (optional_value (codes "journal"))

unfoldable pub carry_app : App
carry_app = with_rule (with_rule (with_rule (with_rule (with_rule (with_rule (with_rule (with_rule (with_rule (with_rule (with_rule (with_rule (with_rule (with_rule (with_rule (new_app (codes "carry"))
    (required_option (codes "from")))
    (required_option (codes "to")))
    (required_option (codes "today")))
    (required_option (codes "journal")))
    (optional (codes "protect")))
    (optional (codes "order")))
    (flag (codes "displace")))
    (flag (codes "fresh-limits")))
    (flag (codes "anew")))
    (optional (codes "shard")))
    (flag (codes "dry-run")))
    (flag (codes "csv")))
    (flag (codes "json")))
    (required_value (codes "carried")))
    (optional_values (codes "others"))

unfoldable pub changes_app : App
changes_app = with_rule (with_rule (with_rule (with_rule (with_rule (with_rule (horizon_app (codes "changes"))
    (required_option (codes "to")))
    (optional (codes "flight")))
    (optional (codes "day")))
    (optional (codes "pair")))
    (flag (codes "open")))
    (required_value (codes "journal"))

unfoldable pub told_app : App
told_app = with_rule (with_rule (with_rule (with_rule (horizon_app (codes "told"))
    (required_option (codes "desk")))
    (optional (codes "from")))
    (flag (codes "open")))
    (required_value (codes "journal"))

unfoldable pub why_app : App
why_app = with_rule (with_rule (with_rule (horizon_app (codes "why"))
    (required_option (codes "line")))
    (flag (codes "open")))
    (required_value (codes "journal"))

unfoldable pub explain_app : App
explain_app = with_rule (with_rule (new_app (codes "explain"))
    (required_value (codes "code")))
    (trailing_values (codes "numbers"))

unfoldable pub season_app : App
season_app = with_rule (with_rule (new_app (codes "season"))
    (required_value (codes "set")))
    (required_value (codes "limits"))

-- the program before its options and commands
unfoldable pub named_app : App
named_app = record {
  top = record (new_app (codes "seatdesk")).top {
    has_version = true;
    has_long_version = true;
    subcommand_required = true;
  };
  subs = [];
}

-- the program before its commands
unfoldable pub bare_app : App
bare_app = with_switches named_app

-- with one more command, which has the switches too
abbrev pub with_command : App → App → App
with_command program command = with_subcommand program (with_switches command).top

-- the commands that work on a schedule, on one leg, or on scripts
unfoldable pub selling_app : App
selling_app = with_command (with_command (with_command (with_command (with_command (with_command (with_command (with_command (with_command
    bare_app ladder_app) check_app) flights_app) cover_app) rooms_app) loads_app) run_app) serve_app) route_app

-- and those that ask what a journal comes to, or carry it to another season
unfoldable pub asking_app : App
asking_app = with_command (with_command (with_command (with_command (with_command (with_command (with_command (with_command (with_command
    selling_app bookings_app) waiting_app) pickup_app) history_app) avs_app) reconcile_app) compare_app) carry_app) changes_app

-- the program: one of its commands must be named
unfoldable pub seatdesk_app : App
seatdesk_app = with_command (with_command (with_command (with_command (with_command (with_command (with_command (with_command
    asking_app audit_app) seal_app) recover_app) replies_app) told_app) why_app) explain_app) season_app

-- a command of this name before its own arguments: with those of a horizon, or without them
abbrev pub before_its_own : Bool → Text → App
before_its_own true name = horizon_app name
before_its_own false name = new_app name

-- what is read of a command that is so described
abbrev pub app_as : Described → App
app_as described = with_arguments (before_its_own described.over_horizon described.name.now) described.arguments.now

-- what each command is read as
abbrev pub app_named : Named → App
app_named named.Ladder = ladder_app
app_named named.Check = check_app
app_named named.Flights = flights_app
app_named named.Cover = cover_app
app_named named.Rooms = rooms_app
app_named named.Loads = loads_app
app_named named.Run = run_app
app_named named.Serve = serve_app
app_named named.Route = route_app
app_named named.Bookings = bookings_app
app_named named.Waiting = waiting_app
app_named named.Pickup = pickup_app
app_named named.History = history_app
app_named named.Avs = avs_app
app_named named.Reconcile = reconcile_app
app_named named.Compare = compare_app
app_named named.Carry = carry_app
app_named named.Changes = changes_app
app_named named.Audit = audit_app
app_named named.Seal = seal_app
app_named named.Recover = recover_app
app_named named.Replies = replies_app
app_named named.Told = told_app
app_named named.Why = why_app
app_named named.Explain = explain_app
app_named named.Season = season_app

-- the program with the commands of these names, one after the other
abbrev pub with_commands : App → List Name → App
with_commands a [] = a
with_commands a (x ∷ xs) = with_commands (with_command a (app_named x.named)) xs

-- the command is read as a, and its options are its own
pub record IsBuiltAs (a : App) (c : Command) : Type 0 where
  pub app : app_of c ≡ a
  pub local : (fields_of c).has_globals ≡ false

-- the argument is read as r, and belongs to its own command
pub record IsReadAs (r : Rule) (a : Arg) : Type 0 where
  pub rule : rule_of a ≡ r
  pub local : a.global ≡ false

mod Stopped
